use Rattle.std.proofs.Common.{◌<◌, length, ap, arith}
use Rattle.std.proofs.lemmas.List.{length-map}
use Rattle.plan_tree.specs.Plans.{plan_tree}
use Rattle.bouquet_type.specs.Cursor.{schedule_of}
use Rattle.bouquet_type.proofs.NextAttempt.{next-plan}
use Rattle.bouquet_type.proofs.schedule.Schedule.next.Goals as goal

pub returns-then-self-plans-clause-goes_on : goal.returns-then-self-plans-clause-goes_on
returns-then-self-plans-clause-goes_on g c =
    let old = schedule_of g.L.Ladder.state c.args.self.now in
    let there : old.given < length old.ladder.hand.plans = omega (arith, c.if-self-plans.true, ap length c.plans.ensures.plans, length-map c.plans.result.now plan_tree) in
    next-plan old.ladder old.given old.number old.budget c.requires there
