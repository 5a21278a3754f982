-- The extents so far reach to the words, and the others are as they were.
use Rattle.std.proofs.Common.{◌≡◌, ℕ, ◌≤◌, ◌<◌, All, length, slice_index_or}
use Rattle.narrow_columns.specs.Codes.{IsWithin}
use Rattle.narrow_columns.specs.Rows.{words_of_column}
use Rattle.narrow_columns.specs.declared.extent.Extent.{Extent}
use Rattle.heap_pages.specs.Columns.{IsWiderThan}
use Rattle.heap_pages.proofs.columns.widen.Given as goal

abbrev pub invariant-loop-place : goal.invariant-loop-place
invariant-loop-place l = record {
  long : length l.extents ≡ length l.initial.extents;
  within : (number : ℕ) → (d : Extent) → number < l.place
      → let extent = slice_index_or l.extents number d in All (IsWithin extent.least extent.greatest) (words_of_column l.width number l.count l.rows);
  wider : (number : ℕ) → (d : Extent) → number < l.place → IsWiderThan (slice_index_or l.initial.extents number d) (slice_index_or l.extents number d);
  left : (number : ℕ) → (d : Extent) → l.place ≤ number → slice_index_or l.extents number d ≡ slice_index_or l.initial.extents number d;
}
