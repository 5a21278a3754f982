-- Words that are NULL's or not, and the tests of rows by them.
use Rattle.std.proofs.Common.{◌≡◌, ℕ, ℤ, pos, negsuc, ◌<◌, ◌-◌, ◌^◌, ◌&&◌, Bool, true, false, not, cond, List, length, FitsSigned, w64, refl, ap, ◌∙◌, arith}
use Rattle.std.specs.Prelude.{int_le, slice_index_or}
use Rattle.std.specs.Ordering.{int_eq}
use Rattle.std.proofs.lemmas.Int.{ints}
use Rattle.sql_values.specs.declared.column.ColumnType.{ColumnType}
use Rattle.sql_values.specs.declared.column.ColumnType.TheVariants.{Integer, Varchar}
use Rattle.sql_values.specs.declared.value.Value.TheVariants as value
use Rattle.sql_values.specs.Words.{null_word, word_meaning}
use Rattle.sql_values.specs.Stored.{values_of}
use Rattle.sql_values.specs.Truth.{certain, is_null, truth_not}
use Rattle.query_block.specs.Blocks.{kind_at}
use Rattle.query_block.specs.Meaning.{is_true}
use Rattle.query_block.specs.Truth.{value_at}
use Rattle.query_block.proofs.Words.{value-at}
use Rattle.db_catalog.specs.ColumnRanges.{AreStored}

some-word : (b : Bool) (texts : List (List ℕ)) (kind : ColumnType) (word : ℤ) → is_null (cond b value.Null (word_meaning texts kind word)) ≡ b
some-word true texts kind word = refl
some-word false texts Integer word = refl
some-word false texts (Varchar most) word = refl

-- a row has NULL in a column where its word there is NULL's
pub null-at : (texts : List (List ℕ)) (kinds : List ColumnType) (words : List ℤ) (column : ℕ) → AreStored texts kinds words → column < length kinds
    → is_null (value_at (values_of texts kinds words) column) ≡ int_eq (slice_index_or words column (pos 0)) null_word
null-at texts kinds words column stored there =
    let word = slice_index_or words column (pos 0) in
    ap is_null (value-at texts kinds words column (pos 0) stored.allowed there) ∙ some-word (int_eq word null_word) texts (kind_at kinds column) word

pub null-among : (word : ℤ) → (int_le null_word word && int_le word null_word) ≡ int_eq word null_word
null-among word = grind (arith, ints)

pub others-among : (word : ℤ) → FitsSigned w64 word → (int_le (negsuc (2 ^ 63 - 2)) word && int_le word (pos (2 ^ 63 - 1))) ≡ not (int_eq word null_word)
others-among word fits = grind (arith, ints, fits)

pub not-null : (b : Bool) → not b ≡ is_true (truth_not (certain b))
not-null true = refl
not-null false = refl

pub is-null : (b : Bool) → b ≡ is_true (certain b)
is-null true = refl
is-null false = refl
