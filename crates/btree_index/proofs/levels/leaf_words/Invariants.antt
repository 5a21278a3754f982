use Rattle.std.proofs.Common.{◌≡◌, ◌+◌, ◌-◌, ◌*◌, ◌<◌, ℕ, length, pos, min}
use Rattle.std.specs.Prelude.{ℤ, slice_index_or}
use Rattle.btree_index.proofs.levels.leaf_words.Given as goal

-- the leaves so far have each its last word
abbrev pub invariant-loop-leaf : goal.invariant-loop-leaf
invariant-loop-leaf l =
    (length l.above.items ≡ l.leaf)
    × ((k : ℕ) (d : ℤ) → k < l.leaf → slice_index_or l.above.items k d ≡ (slice_index_or l.entries (min (k * 64 + 63) (length l.entries - 1)) (pos 0, 0)).0)
