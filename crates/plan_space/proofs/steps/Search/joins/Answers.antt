use Rattle.std.proofs.Common.{◌<◌, ◌≡◌, ◌+◌}
use Rattle.plan_space.specs.Steps.{HasLeft}
use Rattle.plan_space.proofs.Considered.{nothing, and-then, no-left, next-left}
use Rattle.plan_space.proofs.steps.Search.joins.Goals as goal

pub loop-left-init : goal.loop-left-init
loop-left-init c =
    nothing c.args.self.now (HasLeft (λ side. side < 1)) c.args.start
    (no-left c.args.self.now)

pub loop-left-preserved : goal.loop-left-preserved
loop-left-preserved c =
    let left = c.loop-left.left in
    and-then c.args.self.now (HasLeft (λ side. side < left)) (HasLeft (λ side. side ≡ left)) (HasLeft (λ side. side < (left + 1)))
    c.args.start c.loop-left.found c.by_left-found.result c.loop-left.invariant c.by_left-found.ensures
    (λ node group stands. next-left c.args.self.now left node group)
