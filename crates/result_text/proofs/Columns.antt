-- The columns of a stored table, seen as their kinds.
use Rattle.std.proofs.Common.{◌≡◌, ℕ, ℤ, List, [], ◌∷◌, map, refl, ap}
use Rattle.sql_values.specs.declared.column.ColumnDef.{ColumnDef}
use Rattle.sql_values.specs.Stored.{row_of, AreWords}
use Rattle.sql_values.specs.Words.{value_of}
use Rattle.sql_values.specs.Stored.{values_of, AreWordsOf}

-- the values of a stored table's row
pub values_of-kinds : (texts : List (List ℕ)) (columns : List ColumnDef) (words : List ℤ) →
    values_of texts (map (λ column. column.kind) columns) words ≡ row_of texts columns words
values_of-kinds texts [] words = refl
values_of-kinds texts (column ∷ columns) [] = refl
values_of-kinds texts (column ∷ columns) (word ∷ words) = ap (λ row. value_of texts column.kind word ∷ row) (values_of-kinds texts columns words)

-- words that may stand in a stored table's row
pub AreWordsOf-kinds : (texts : List (List ℕ)) (columns : List ColumnDef) (words : List ℤ) →
    AreWords texts columns words → AreWordsOf texts (map (λ column. column.kind) columns) words
AreWordsOf-kinds texts [] [] are = tt
AreWordsOf-kinds texts [] (word ∷ words) are = are
AreWordsOf-kinds texts (column ∷ columns) [] are = are
AreWordsOf-kinds texts (column ∷ columns) (word ∷ words) are = (are.0, AreWordsOf-kinds texts columns words are.1)
