-- The bouquet can't be used, or the answer is due.
use Rattle.std.proofs.Common.{◌≡◌, refl}
use Rattle.std.specs.Prelude.{Err}
use Rattle.std.proofs.lemmas.Result.{err_from_is_err_and}
use Rattle.exec_pipe.proofs.Joins.{on-ok}
use Rattle.workspace.specs.States.{world_of}
use Rattle.workspace.specs.World.{World}
use Rattle.workspace.specs.Outcome.{Refuses}
use Rattle.workspace.proofs.Stopping.{stops_so}
use Rattle.session.specs.Answered.{used_due}
use Rattle.session.specs.Learn.{learn_outcome}
use Rattle.session.proofs.session.Session.learn.Goals as goal

pub returns-in_err-used-clause-due : goal.returns-in_err-used-clause-due
returns-in_err-used-clause-due c =
    let stop = err_from_is_err_and c.from_residual.result c.from_residual.ensures.1 in
    let world : World = world_of c.args.self.now in
    let run = c.args.run.now in
    rw (stop.1, stop.2) (stops_so (λ found. used_due world run.name run.values ≡ Err found) (λ found. learn_outcome c.args.max_work world run ≡ Refuses found) (λ found is. rw is refl) _ c.in_err-used.ensures.due)

pub learned_answer-requires : goal.learned_answer-requires
learned_answer-requires c = rw c.self.view_is c.in_ok-used.ensures.used.usable

pub returns-clause-due : goal.returns-clause-due
returns-clause-due c =
    rw (← c.self.view_is, rw (← c.self.view_is) at c.in_ok-used.ensures.due) c.learned_answer.ensures

pub returns-clause-bounded : goal.returns-clause-bounded
returns-clause-bounded c = on-ok c.learned_answer.result c.in_ok-used.ensures.used.learns
