use Rattle.std.proofs.Common.{◌≡◌, true, subst, arith}
use Rattle.std.proofs.lemmas.Grind.{common_steps}
use Rattle.std.specs.Prelude.{Ok, Bool}
use Rattle.std.specs.declared.alloc.AllocError.{AllocError}
use Rattle.bouquet_type.specs.Cursor.{schedule_of}
use Rattle.bouquet_type.specs.Budgets.{budget_of}
use Rattle.bouquet_type.specs.Ladders.{Climbs}
use Rattle.bouquet_type.proofs.NextAttempt.{next-contour, next-last, schedule_at}
use Rattle.bouquet_type.proofs.schedule.Schedule.climb.Goals as goal

pub returns-then-branch-clause-goes_on : goal.returns-then-branch-clause-goes_on
returns-then-branch-clause-goes_on g c =
    let old = schedule_of g.L.Ladder.state c.args.self.now in
    let new = g.L.Ladder.state c.climb.new.self in
    let climbs : Climbs {E = AllocError} old.ladder new (Ok true) = subst (λ (b : Bool). Climbs {E = AllocError} old.ladder new (Ok b)) c.if-branch.true c.in_ok-climb.ensures.climbs in
    let cap : c.budget_on.result ≡ budget_of new.whole.threshold new.hand.cost = cc in
    next-contour old.ladder new old.given old.number c.budget_on.result old.budget c.requires.is c.requires.given c.in_ok-climb.ensures.ladder climbs.0 climbs.1 cap

pub returns-else-branch-clause-goes_on : goal.returns-else-branch-clause-goes_on
returns-else-branch-clause-goes_on g c = grind (arith, common_steps, schedule_at, next-last)
