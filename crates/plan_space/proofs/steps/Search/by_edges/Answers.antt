use Rattle.std.proofs.Common.{◌<◌, ◌≡◌, ◌+◌}
use Rattle.plan_space.specs.Steps.{HasEdge}
use Rattle.plan_space.proofs.Considered.{nothing, and-then, no-edge, next-edge}
use Rattle.plan_space.proofs.steps.Search.by_edges.Goals as goal

pub loop-edge-init : goal.loop-edge-init
loop-edge-init c =
    nothing c.args.self.now (HasEdge (λ number. number < 0) c.args.left) c.args.start
    (λ node group stands. no-edge c.args.self.now c.args.left node group)

pub loop-edge-preserved : goal.loop-edge-preserved
loop-edge-preserved c =
    let edge = c.loop-edge.edge in
    and-then c.args.self.now (HasEdge (λ number. number < edge) c.args.left) (HasEdge (λ number. number ≡ edge) c.args.left) (HasEdge (λ number. number < (edge + 1)) c.args.left)
    c.args.start c.loop-edge.found c.by_edge-found.result c.loop-edge.invariant c.by_edge-found.ensures
    (λ node group stands. next-edge c.args.self.now edge c.args.left node group)
