-- So many columns are there, without words.
use Rattle.std.proofs.Common.{◌≡◌, [], All, length}
use Rattle.narrow_columns.specs.Kept.{ColumnState}
use Rattle.heap_pages.proofs.columns.empty_columns.Given as goal

abbrev pub invariant-loop-number : goal.invariant-loop-number
invariant-loop-number l = record {
  count : length l.columns.items ≡ l._number;
  empty : All (λ (column : ColumnState). column.words ≡ []) l.columns.items;
}
