use Rattle.std.proofs.Common.{◌≡◌, ◌-◌, ◌^◌, ◌≤◌, ◌++◌, List, length, drop, map}
use Rattle.std.specs.Prelude.{ℤ}
use Rattle.std.specs.Int.{div_ceil}
use Rattle.btree_index.specs.Nodes.{AreLevels, entry_word, nodes_up_to}
use Rattle.btree_index.proofs.levels.inner_levels.Given as goal

-- the last level so far begins there, and what completes the levels from it on completes them all
abbrev pub invariant-loop-level : goal.invariant-loop-level
invariant-loop-level l = record {
  begins : l.begin ≤ length l.inner.items;
  size : length l.inner.items - l.begin ≡ div_ceil (length l.entries) (64 ^ (l._level - 1));
  nodes : length l.inner.items ≡ nodes_up_to (length l.entries) (l._level - 1);
  completes : (rest : List ℤ) → AreLevels (l.height - l._level) (drop l.begin l.inner.items) rest → AreLevels (l.height - 1) (map entry_word l.entries) (l.inner.items ++ rest);
}
