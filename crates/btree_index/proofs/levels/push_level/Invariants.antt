use Rattle.std.proofs.Common.{◌≡◌, ◌+◌, ◌-◌, ◌*◌, ◌<◌, ℕ, length, min, take}
use Rattle.std.specs.Prelude.{ℤ, slice_index_or}
use Rattle.btree_index.proofs.levels.push_level.Given as goal

-- the words that there were stand, and behind them the last word of each node so far
abbrev pub invariant-loop-node : goal.invariant-loop-node
invariant-loop-node l = record {
  long : length l.inner.items ≡ l.end + l.node;
  kept : take l.end l.inner.items ≡ l.initial.inner.items;
  each : (k : ℕ) (d : ℤ) → k < l.node → slice_index_or l.inner.items (l.end + k) d ≡ slice_index_or l.initial.inner.items (min (l.begin + k * 64 + 63) (l.end - 1)) d;
}
