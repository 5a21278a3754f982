use Rattle.std.proofs.Common.{◌≡◌, ◌≤ℤ◌, All, fold}
use Rattle.std.specs.Int.{int_max}
use Rattle.narrow_columns.specs.Codes.{IsWithin}
use Rattle.narrow_columns.specs.Rows.{words_of_column, least_word}
use Rattle.narrow_columns.proofs.extent.extent_of.Given as goal

abbrev pub invariant-loop-row : goal.invariant-loop-row
invariant-loop-row l = record {
  within : All (IsWithin l.extent.least l.extent.greatest) (words_of_column l.at.width l.at.place l.row l.rows);
  least : l.extent.least ≡ fold least_word l.fn.so_far.least (words_of_column l.at.width l.at.place l.row l.rows);
  greatest : l.extent.greatest ≡ fold int_max l.fn.so_far.greatest (words_of_column l.at.width l.at.place l.row l.rows);
  low : l.extent.least ≤ℤ l.fn.so_far.least;
  high : l.fn.so_far.greatest ≤ℤ l.extent.greatest;
}
