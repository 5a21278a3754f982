use Rattle.std.proofs.Common.{◌≡◌, ℕ, ◌<◌, IsTrue, false, length, get_or}
use Rattle.query_block.specs.Meaning.{is_inside}
use Rattle.plan_tree.specs.Enumerated.{edge_at}
use Rattle.plan_tree.specs.Sets.{set_of}
use Rattle.plan_space.proofs.alike.edges_inside.Given as goal

abbrev pub invariant-loop-edge : goal.invariant-loop-edge
invariant-loop-edge l =
    ((edge : ℕ) → edge < l.edge → IsTrue (is_inside (set_of l.set) (edge_at l.edges edge)) → IsTrue (get_or l.inside edge false)) × (length l.inside ≡ 6)
