-- The words of the rows that are gone through are there, and there is room for those of the others.
use Rattle.std.proofs.Common.{◌≡◌, ℕ, ◌≤◌, ◌<◌, ◌-◌, ◌*◌, ◌++◌, drop, length, slice_index_or}
use Rattle.narrow_columns.specs.Kept.{ColumnState}
use Rattle.narrow_columns.specs.Rows.{words_of_column}
use Rattle.heap_pages.specs.Columns.{HaveRoomFor}
use Rattle.heap_pages.proofs.columns.push_in.Given as goal

abbrev pub invariant-loop-done : goal.invariant-loop-done
invariant-loop-done l = record {
  fits : l.done ≤ l.growth.more;
  count : length l.columns.items ≡ length l.initial.columns.items;
  words : (number : ℕ) → (d : ColumnState) → number < length l.columns.items
      → (slice_index_or l.columns.items number d).words ≡ (slice_index_or l.initial.columns.items number d).words ++ words_of_column l.growth.width number l.done l.words;
  room : HaveRoomFor l.growth.width (l.growth.more - l.done) (drop (l.done * l.growth.width) l.words) l.columns.items;
}

abbrev pub decreases-loop-done : goal.decreases-loop-done
decreases-loop-done l = l.growth.more - l.done
