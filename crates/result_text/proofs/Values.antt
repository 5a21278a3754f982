-- The values of a row, column by column.
use Rattle.std.proofs.Common.{◌≡◌, ℕ, ℤ, zero, suc, ◌<◌, List, [], ◌∷◌, ◌++◌, length, get_or, take, refl, ap, arith}
use Rattle.sql_values.specs.declared.column.ColumnType.{ColumnType}
use Rattle.sql_values.specs.Words.{value_of}
use Rattle.result_text.specs.Rows.{WordRow}
use Rattle.sql_values.specs.Stored.{values_of}

-- one column more
pub values_of-more : (texts : List (List ℕ)) (kinds : List ColumnType) (row : WordRow) (i : ℕ) (kind : ColumnType) (word : ℤ) → i < length kinds → i < length row →
    values_of texts (take (suc i) kinds) row ≡ values_of texts (take i kinds) row ++ value_of texts (get_or kinds i kind) (get_or row i word) ∷ []
values_of-more texts [] row i kind word below inside = absurd (omega arith)
values_of-more texts (k ∷ kinds) [] i kind word below inside = absurd (omega arith)
values_of-more texts (k ∷ kinds) (w ∷ row) zero kind word below inside = refl
values_of-more texts (k ∷ kinds) (w ∷ row) (suc i) kind word below inside =
    ap (λ values. value_of texts k w ∷ values) (values_of-more texts kinds row i kind word (omega arith) (omega arith))
