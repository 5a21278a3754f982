-- The columns so far have room, and no word has changed.
use Rattle.std.proofs.Common.{◌≡◌, ℕ, ◌<◌, length, slice_index_or}
use Rattle.narrow_columns.specs.Kept.{ColumnState}
use Rattle.narrow_columns.specs.Rows.{words_of_column}
use Rattle.heap_pages.specs.Columns.{HasRoomFor}
use Rattle.heap_pages.proofs.columns.make_room_in.Given as goal

abbrev pub invariant-loop-number : goal.invariant-loop-number
invariant-loop-number l = record {
  count : length l.columns.items ≡ length l.initial.columns.items;
  words : (number : ℕ) → (d : ColumnState) → number < length l.columns.items → (slice_index_or l.columns.items number d).words ≡ (slice_index_or l.initial.columns.items number d).words;
  room : (number : ℕ) → (d : ColumnState) → number < l.number → HasRoomFor (words_of_column l.growth.width number l.growth.more l.words) (slice_index_or l.columns.items number d);
}
