-- A row has one of the words that are known of the rows that pass a test exactly where it passes.
use Rattle.std.proofs.Common.{◌≡◌, ℕ, ℤ, ◌<◌, ◌&&◌, Bool, true, false, not, cond, List, length, FitsSigned, w64, refl, sym, ap, subst, ◌∙◌, arith}
use Rattle.std.specs.Prelude.{int_le, slice_index_or}
use Rattle.std.specs.Ordering.{int_eq}
use Rattle.std.proofs.lemmas.Bool.{false_from_ne_true, true≢false}
use Rattle.std.proofs.lemmas.List.{get_or_default, get_or-map, length-map}
use Rattle.sql_values.specs.declared.column.ColumnType.{ColumnType}
use Rattle.sql_values.specs.declared.column.ColumnType.TheVariants.{Integer, Varchar}
use Rattle.sql_values.specs.declared.value.Value.TheVariants as value
use Rattle.sql_values.specs.Words.{null_word, word_of, word_meaning}
use Rattle.sql_values.specs.Stored.{ValueRow, values_of}
use Rattle.sql_values.specs.Truth.{is_null}
use Rattle.query_block.specs.Blocks.{kind_at}
use Rattle.query_block.specs.Truth.{value_at}
use Rattle.query_block.proofs.OfKinds.{of-words}
use Rattle.query_block.proofs.Words.{length-words, value-at}
use Rattle.db_catalog.specs.declared.column_range.ColumnRange.{ColumnRange}
use Rattle.db_catalog.specs.ColumnRanges.{AreStored, IsRangeOf, has_word}

-- a word other than NULL's stands for a value
some-word : (b : Bool) (texts : List (List ℕ)) (kind : ColumnType) (word : ℤ) → is_null (cond b value.Null (word_meaning texts kind word)) ≡ b
some-word true texts kind word = refl
some-word false texts Integer word = refl
some-word false texts (Varchar most) word = refl

module _ (texts : List (List ℕ)) (kinds : List ColumnType) (test : ValueRow → Bool) (found : ColumnRange) (is : IsRangeOf texts kinds test found) (words : List ℤ) (stored : AreStored texts kinds words)
    (d : ℤ) (fits : FitsSigned w64 (slice_index_or words found.column d)) where
  abbrev word : ℤ
  word = slice_index_or words found.column d

  abbrev row : ValueRow
  row = values_of texts kinds words

  pub inside : found.column < length words
  inside = omega (arith, is.there, length-words texts kinds words stored.allowed)

  -- the word of the column is that of its value
  of-value : word ≡ word_of texts (value_at row found.column)
  of-value =
      let long : found.column < length row = omega (arith, inside, ap length stored.by_value, length-map row (word_of texts)) in
      get_or_default words found.column d null_word inside
      ∙ ap (λ (ws : List ℤ). slice_index_or ws found.column null_word) stored.by_value
      ∙ get_or-map (word_of texts) row found.column value.Null null_word long

  -- it is NULL's where the column is NULL
  of-null : int_eq word null_word ≡ is_null (value_at row found.column)
  of-null =
      sym (ap is_null (value-at texts kinds words found.column d stored.allowed is.there) ∙ some-word (int_eq word null_word) texts (kind_at kinds found.column) word)

  told : (b : Bool) → is_null (value_at row found.column) ≡ b → (not b && (int_le found.from word && int_le word found.to)) ≡ test row
  told true null = sym (false_from_ne_true (test row) (λ met. true≢false (sym null ∙ is.some row met)))
  told false some =
      ap (λ (w : ℤ). int_le found.from w && int_le w found.to) of-value
      ∙ is.picks row (record { some = some; kind_is = of-words texts kinds words found.column stored.allowed; fits = subst (FitsSigned w64) of-value fits })

  pub has-word : has_word found word ≡ test row
  has-word = ap (λ b. not b && (int_le found.from word && int_le word found.to)) of-null ∙ told (is_null (value_at row found.column)) refl
