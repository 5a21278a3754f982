use Rattle.std.proofs.Common.{ap, ◌∙◌, ◌∷◌, []}
use Rattle.std.proofs.lemmas.List.{append-nil}
use Rattle.bouquet_type.specs.Runs.{end_behind}
use Rattle.bouquet_type.proofs.Ends.{spent_on, end-passed, end-fits, first-fits}
use Rattle.std.specs.Prelude.{length}
use Rattle.bouquet_type.proofs.law.a_run_ends_with_the_first_that_fits.Goals as goal

pub returns-clause-fits : goal.returns-clause-fits
returns-clause-fits c = λ work before member after final past fits.
    end-passed work before (member ∷ after) final past ∙ ap (end_behind (spent_on before) (length before)) (end-fits work member after final fits)

pub returns-clause-none_fits : goal.returns-clause-none_fits
returns-clause-none_fits c = λ work members final past. rw append-nil at (end-passed work members [] final past)

pub returns-clause-one_is : goal.returns-clause-one_is
returns-clause-one_is c = first-fits
