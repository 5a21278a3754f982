-- The bouquet can't be used, or it answers.
use Rattle.std.proofs.Common.{◌≡◌, refl}
use Rattle.std.specs.Prelude.{Err}
use Rattle.std.proofs.lemmas.Result.{err_from_is_err_and}
use Rattle.sql_parse.specs.Trees.{Run}
use Rattle.exec_pipe.proofs.Joins.{on-ok}
use Rattle.workspace.specs.States.{world_of}
use Rattle.workspace.specs.World.{World}
use Rattle.workspace.specs.Outcome.{Refuses}
use Rattle.workspace.proofs.Stopping.{stops_so}
use Rattle.session.specs.Answered.{used_due}
use Rattle.session.specs.Run.{run_outcome}
use Rattle.session.proofs.Beginning.{answers_unpaid}
use Rattle.session.proofs.session.Session.run.Goals as goal

pub returns-in_err-used : goal.returns-in_err-used
returns-in_err-used c =
    let world : World = world_of c.args.self.now in
    let stop = err_from_is_err_and c.from_residual.result c.from_residual.ensures.1 in
    let run = c.args.run.now in
    rw (stop.1, stop.2) (answers_unpaid c.args.max_work world (Run run) _ c.args.book.now
    (λ file. stops_so (λ found. used_due world run.name run.values ≡ Err found) (λ found. run_outcome c.args.max_work world run ≡ Refuses found) (λ found is. rw is refl) _ c.in_err-used.ensures.due))

pub returns : goal.returns
returns c = record {
  due = λ file. rw c.in_ok-used.ensures.due c.answered.ensures.due;
  bounded = on-ok c.answered.result c.in_ok-used.ensures.used.within;
  pays = c.answered.ensures.pays;
}
