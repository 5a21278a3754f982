-- The jobs are before their first turns.
use Rattle.std.proofs.Common.{◌∙◌, ◌<◌, length, map, sym, ap, subst}
use Rattle.std.specs.Prelude.{All}
use Rattle.turns.specs.Jobs.{job_tree}
use Rattle.db_catalog.specs.Database.{DatabaseState}
use Rattle.workspace.specs.Returns.{ReturnsFree}
use Rattle.workspace.specs.States.{world_of}
use Rattle.workspace.specs.World.{World}
use Rattle.session.specs.Turns.{turns_answer}
use Rattle.session.specs.Uses.{task_of_use}
use Rattle.session.proofs.by_turns.turns_answer.Goals as goal

pub jobs_answer-requires-clause-fresh : goal.jobs_answer-requires-clause-fresh
jobs_answer-requires-clause-fresh c =
    ap (map job_tree) c.deref_mut.ensures.value ∙ c.in_ok-jobs.ensures

pub jobs_answer-requires-clause-there : goal.jobs_answer-requires-clause-there
jobs_answer-requires-clause-there c = subst (All (λ number. number < length c.args.all.now)) (sym c.deref.ensures.value) c.in_ok-numbers.ensures.there

pub returns : goal.returns
returns c =
    let world : World = world_of c.args.workspace.now in
    subst (λ (database : DatabaseState). ReturnsFree (turns_answer c.args.max_work world c.args.by.now (map (task_of_use c.args.max_work database) c.args.all.now)) c.jobs_answer.result world)
    c.database-database.ensures
    (c.jobs_answer.ensures c.args.by.now world (c.deref.ensures.value ∙ c.in_ok-numbers.ensures.numbers))
