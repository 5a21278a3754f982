use Rattle.std.proofs.Common.{rules}
use Rattle.query_block.specs.Blocks.{block_tree}
use Rattle.plan_tree.specs.Plans.{plan_tree}
use Rattle.audit_run.proofs.Some.{work_some}
use Rattle.audit_run.proofs.executions.measured.Goals as goal

pub returns-in-Ok : goal.returns-in-Ok
returns-in-Ok c =
    let some = work_some c.args.engine.now.meter.now.database.tables (block_tree c.args.engine.now.block.now) (plan_tree c.args.plan.now) in
    record {
      cost = search rules;
      work = search rules;
      has = record { some = search (rules, some); few = search rules };
      paid = search rules;
      context = search rules;
      keeps = search rules;
    }
