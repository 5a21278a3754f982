use Rattle.std.proofs.Common.{◌+◌, ◌*◌, ◌≤◌}
use Rattle.std.specs.Prelude.{slice_index_or}
use Rattle.btree_index.specs.Nodes.{is_below, IsCounted}
use Rattle.btree_index.proofs.node.count_below.Given as goal

abbrev pub invariant-loop-i : goal.invariant-loop-i
invariant-loop-i g l = (l.below ≤ l.i) × ((d : _) → IsCounted (λ i. is_below l.fn.word (g.T.Worded.word_of (slice_index_or l.items (l.first + i * l.step) d))) l.below l.i)
