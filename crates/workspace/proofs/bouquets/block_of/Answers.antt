-- Binding refuses the query, or it has its block, with as many parameters as the query.
use Rattle.std.proofs.Common.{◌≡◌, Ok, Err, refl, ap, sym, subst, ◌≤◌}
use Rattle.sql_parse.specs.Trees.{query_tree}
use Rattle.sql_bind.specs.declared.fault.BindFault.TheVariants as bind
use Rattle.sql_values.specs.Limits.{max_parameters}
use Rattle.workspace.specs.Bouquets.{block_due}
use Rattle.workspace.specs.declared.refusal.Refusal.TheVariants as refusal
use Rattle.std.proofs.lemmas.Result.{err_from_is_err_and}
use Rattle.workspace.proofs.Stopping.{told_free}
use Rattle.workspace.proofs.bouquets.block_of.Goals as goal

pub returns-in_err-bind-clause-due : goal.returns-in_err-bind-clause-due
returns-in_err-bind-clause-due c =
    let database = c.args.database.now in
    let query = query_tree c.args.query.now in
    let stop = err_from_is_err_and c.from_residual.result c.from_residual.ensures.1 in
    rw stop.1 (told_free (λ found. block_due database query ≡ Err found) bind.NoMemory refusal.NotBound c.in_err-bind.field-0.0 stop.0 stop.2
    (λ other. rw (c.in_err-bind.ensures.refuses.refused other) refl) refl)

pub returns-clause-due : goal.returns-clause-due
returns-clause-due c =
    let database = c.args.database.now in
    let query = query_tree c.args.query.now in
    rw c.in_ok-bind.ensures.refuses.answered (ap Ok (sym c.in_ok-bind.ensures.block))

pub returns-clause-parameters : goal.returns-clause-parameters
returns-clause-parameters c = subst (λ n. n ≤ max_parameters) (sym c.in_ok-bind.ensures.parameters) c.requires.parameters
