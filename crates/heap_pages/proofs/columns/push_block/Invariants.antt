-- The columns so far have the words behind their own, and the others are as they were.
use Rattle.std.proofs.Common.{◌≡◌, ℕ, ◌≤◌, ◌<◌, length, slice_index_or}
use Rattle.narrow_columns.specs.Kept.{ColumnState}
use Rattle.narrow_columns.specs.Rows.{words_of_column}
use Rattle.heap_pages.specs.Columns.{with_words}
use Rattle.heap_pages.proofs.columns.push_block.Given as goal

abbrev pub invariant-loop-place : goal.invariant-loop-place
invariant-loop-place l = record {
  count : length l.columns.items ≡ length l.initial.columns.items;
  pushed : (number : ℕ) → (d : ColumnState) → number < l.place
      → slice_index_or l.columns.items number d ≡ with_words (words_of_column l.width number l.count l.rows) (slice_index_or l.initial.columns.items number d);
  left : (number : ℕ) → (d : ColumnState) → l.place ≤ number → slice_index_or l.columns.items number d ≡ slice_index_or l.initial.columns.items number d;
}
