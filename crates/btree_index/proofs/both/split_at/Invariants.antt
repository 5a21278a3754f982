use Rattle.std.proofs.Common.{◌≡◌, ◌+◌, ◌-◌, ◌<◌, ◌≤◌, length, false, get_or}
use Rattle.std.specs.Ordering.{is_gt}
use Rattle.btree_index.specs.Entries.{IndexEntry, entry_order}
use Rattle.btree_index.proofs.both.split_at.Given as goal

-- at least so many older entries stand before the place, and at most so many
abbrev pub invariant-loop-low : goal.invariant-loop-low
invariant-loop-low l = record {
  ranges : l.low ≤ l.high;
  within : l.high ≤ l.place;
  older_there : l.high ≤ length l.older;
  newer_there : l.place ≤ l.low + length l.newer;
  older_before : (d : IndexEntry) → 0 < l.low → l.place - l.low < length l.newer → is_gt (entry_order (get_or l.older (l.low - 1) d) (get_or l.newer (l.place - l.low) d)) ≡ false;
  newer_before : (d : IndexEntry) → l.high < l.place → l.high < length l.older → is_gt (entry_order (get_or l.newer (l.place - l.high - 1) d) (get_or l.older l.high d)) ≡ false;
}

abbrev pub decreases-loop-low : goal.decreases-loop-low
decreases-loop-low l = l.high - l.low
