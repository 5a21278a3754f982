use Rattle.std.proofs.Common.{◌≡◌, ◌-◌, ◌*◌, ◌^◌, ◌≤◌}
use Rattle.std.specs.Int.{div_ceil}
use Rattle.btree_index.specs.Nodes.{nodes_up_to}
use Rattle.btree_index.proofs.index.nodes_for.Given as goal

-- the nodes of the level below the next one, and all up to it
abbrev pub invariant-loop-level : goal.invariant-loop-level
invariant-loop-level l = record {
  size : l.level_nodes ≡ div_ceil l.entries (64 ^ (l._level - 1));
  few : l.level_nodes ≤ 2 ^ 64;
  nodes : l.below_root ≡ nodes_up_to l.entries (l._level - 1);
  bound : l.below_root ≤ (l._level - 1) * 2 ^ 58;
}
