-- The rows of the table of a relation, by the kinds of the relation's columns.
use Rattle.std.proofs.Common.{◌≡◌, ℕ, ℤ, List, [], ◌∷◌, map, refl, sym, ap, subst, ◌∙◌}
use Rattle.sql_values.specs.declared.column.ColumnDef.{ColumnDef}
use Rattle.sql_values.specs.Words.{value_of}
use Rattle.sql_values.specs.Stored.{ValueRow, StandsFor, row_of, values_of, AreWords, AreWordsOf}
use Rattle.query_block.specs.Blocks.{RelationTree}
use Rattle.db_catalog.specs.Database.{DatabaseState, table_at}
use Rattle.db_catalog.specs.Fits.{FitsTable}

-- the values of a stored table's row, by the kinds of its columns
pub values_by_kind : (texts : List (List ℕ)) (columns : List ColumnDef) (words : List ℤ) → values_of texts (map (λ column. column.kind) columns) words ≡ row_of texts columns words
values_by_kind texts [] words = refl
values_by_kind texts (column ∷ columns) [] = refl
values_by_kind texts (column ∷ columns) (word ∷ words) = ap (λ row. value_of texts column.kind word ∷ row) (values_by_kind texts columns words)

-- and words that may stand in it
pub words_by_kind : (texts : List (List ℕ)) (columns : List ColumnDef) (words : List ℤ) → AreWords texts columns words → AreWordsOf texts (map (λ column. column.kind) columns) words
words_by_kind texts [] [] are = tt
words_by_kind texts [] (word ∷ words) are = are
words_by_kind texts (column ∷ columns) [] are = are
words_by_kind texts (column ∷ columns) (word ∷ words) are = (are.0, words_by_kind texts columns words are.1)

-- a row of the relation's table, by the kinds of the relation's columns
module _ (database : DatabaseState) (relation : RelationTree) (fits : FitsTable database relation) (words : List ℤ) (row : ValueRow)
    (stands : StandsFor database.texts (table_at database relation.table).columns words row) where
  pub relation_words : AreWordsOf database.texts relation.columns words
  relation_words =
      subst (λ kinds. AreWordsOf database.texts kinds words) (sym fits.columns) (words_by_kind database.texts (table_at database relation.table).columns words stands.allowed)

  pub relation_values : values_of database.texts relation.columns words ≡ row
  relation_values =
      ap (λ kinds. values_of database.texts kinds words) fits.columns ∙ values_by_kind database.texts (table_at database relation.table).columns words ∙ sym stands.values
