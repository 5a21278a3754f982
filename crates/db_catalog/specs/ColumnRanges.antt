-- Rows of words: those in the slots of a page, and the words of one column in the rows that pass a test.
use Rattle.std.specs.Prelude.{◌≡◌, ℕ, ℤ, pos, ◌*◌, ◌<◌, ◌&&◌, Bool, true, false, not, FitsSigned, List, drop, int_le, length, map, slice_index_or, take}
use Rattle.std.specs.Int.{w64}
use Rattle.std.specs.Ordering.{int_eq}
use Rattle.narrow_columns.specs.Marks.{is_among}
use Rattle.sql_values.specs.declared.column.ColumnType.{ColumnType}
use Rattle.sql_values.specs.Words.{null_word, word_of}
use Rattle.sql_values.specs.Stored.{AreWordsOf, ValueRow, values_of}
use Rattle.sql_values.specs.Truth.{is_null}
use Rattle.query_block.specs.Picked.{Picks}
use Rattle.query_block.specs.Truth.{value_at}
use Rattle.db_catalog.specs.declared.column_range.ColumnRange.{ColumnRange}

-- the words of the row in a slot, where rows of so many words follow one another
abbrev pub slot_words : (page : List ℤ) → (width slot : ℕ) → List ℤ
slot_words page width slot = take width (drop (slot * width) page)

-- the words may stand in a row of columns of these kinds, and each is the word of its value
pub record AreStored (texts : List (List ℕ)) (kinds : List ColumnType) (words : List ℤ) : Type 0 where
  pub allowed : AreWordsOf texts kinds words
  pub by_value : words ≡ map (word_of texts) (values_of texts kinds words)

-- whether a word is one of these; NULL's is none
abbrev pub has_word : ColumnRange → (word : ℤ) → Bool
has_word found word = not (int_eq word null_word) && (int_le found.from word && int_le word found.to)

-- a row that passes a test has a value in the column; of the rows that have one exactly those pass whose word is one of these
pub record IsRangeOf (texts : List (List ℕ)) (kinds : List ColumnType) (test : ValueRow → Bool) (found : ColumnRange) : Type 0 where
  pub there : found.column < length kinds
  pub some : (row : ValueRow) → test row ≡ true → is_null (value_at row found.column) ≡ false
  pub picks : Picks texts kinds found.column found.from found.to test

-- of rows that may stand in columns of these kinds exactly those pass a test whose word in the column is one of these, NULL's like any other
pub record IsWordsOf (texts : List (List ℕ)) (kinds : List ColumnType) (test : ValueRow → Bool) (found : ColumnRange) : Type 0 where
  pub there : found.column < length kinds
  pub tells : (words : List ℤ) → AreStored texts kinds words → FitsSigned w64 (slice_index_or words found.column (pos 0))
      → is_among found.from found.to (slice_index_or words found.column (pos 0)) ≡ test (values_of texts kinds words)
