use Rattle.std.proofs.Common.{◌≡◌, drop}
use Rattle.plan_tree.specs.Sets.{set_of}
use Rattle.known_rows.specs.LeastWork.{are_joined}
use Rattle.known_rows.proofs.least.are_sets_joined.Given as goal

abbrev pub invariant-loop-edge : goal.invariant-loop-edge
invariant-loop-edge l = are_joined l.block.edges (set_of l.left) (set_of l.right) ≡ are_joined (drop l.edge-index l.edge-items) (set_of l.left) (set_of l.right)
