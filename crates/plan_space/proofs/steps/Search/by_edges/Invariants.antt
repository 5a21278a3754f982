use Rattle.std.proofs.Common.{◌<◌}
use Rattle.plan_space.specs.Steps.{Considers, HasEdge}
use Rattle.plan_space.proofs.steps.Search.by_edges.Given as goal

abbrev pub invariant-loop-edge : goal.invariant-loop-edge
invariant-loop-edge l = Considers l.self (HasEdge (λ number. number < l.edge) l.left) l.fn.start l.found
