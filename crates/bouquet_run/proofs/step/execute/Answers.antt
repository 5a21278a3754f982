use Rattle.std.proofs.Common.{refl, subst}
use Rattle.query_block.specs.Blocks.{block_tree}
use Rattle.plan_tree.specs.Plans.{plan_tree}
use Rattle.exec_pipe.specs.Runs.{RunsWithin}
use Rattle.exec_pipe.specs.Starting.{plan_work}
use Rattle.bouquet_run.proofs.Done.{told}
use Rattle.bouquet_run.proofs.step.execute.Goals as goal

pub returns-in_ok-report-in-Ok-Done-clause-tells :
    goal.returns-in_ok-report-in-Ok-Done-clause-tells
returns-in_ok-report-in-Ok-Done-clause-tells c =
    let attempt = c.args.attempt in
    let old = c.args.engine.now in
    let at = c.execute.new.self in
    let block = block_tree old.block.now in
    let work = plan_work old.meter.now old.block.now attempt.plan.now in
    let done = subst (RunsWithin old.meter.now.database block work attempt.budget old.max_work old.meter.now.account at.meter.now.account at.space.now.result.rows) c.in-Ok-Done.field-0-is c.in-Ok-Done.ensures.runs in
    told old.meter.now.database block (plan_tree attempt.plan.now) attempt.contour c.args.runs work old.max_work old.meter.now.account at.meter.now.account
    at.space.now.result.rows attempt.budget at.space.now c.report.new.space c.in_ok-report-in-Ok-Done.field-0 done refl c.in_ok-report-in-Ok-Done.ensures.tells
