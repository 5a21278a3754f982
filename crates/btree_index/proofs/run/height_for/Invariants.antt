use Rattle.std.proofs.Common.{◌≡◌, ◌*◌, ◌+◌, ◌-◌, ◌≤◌, ◌^◌}
use Rattle.std.specs.Prelude.{nat_le}
use Rattle.btree_index.specs.Height.{node_entries, least_from, height_of}
use Rattle.btree_index.proofs.run.height_for.Given as goal

-- no height so far has room, and there is a next one
abbrev pub invariant-loop-room : goal.invariant-loop-room
invariant-loop-room l =
    (l.room ≡ node_entries ^ l.height) × (1 ≤ l.height) × (l.height ≤ 11) × (l.height ≤ l.room) × (l.room ≤ 64 * 2 ^ 64)
    × (height_of l.entries ≡ least_from (l.entries + 1 - l.height) l.height (λ levels. nat_le l.entries (node_entries ^ levels)))

abbrev pub decreases-loop-room : goal.decreases-loop-room
decreases-loop-room l = l.entries - l.room
