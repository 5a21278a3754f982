-- Words of a column: those that two ranges share, and those of both as one range.
use Rattle.std.proofs.Common.{◌≡◌, ℕ, ℤ, pos, ◌+ℤ◌, ◌<◌, ◌&&◌, ◌||◌, Bool, true, false, not, List, length, refl, ap, ◌∙◌, arith}
use Rattle.std.specs.Prelude.{int_le, slice_index_or}
use Rattle.std.proofs.lemmas.Int.{ints}
use Rattle.std.proofs.lemmas.List.{get_or_default, get_or-map, length-map}
use Rattle.sql_values.specs.declared.column.ColumnType.{ColumnType}
use Rattle.sql_values.specs.declared.value.Value.TheVariants as value
use Rattle.sql_values.specs.Words.{null_word, word_of}
use Rattle.sql_values.specs.Stored.{values_of}
use Rattle.query_block.specs.Truth.{value_at}
use Rattle.query_block.proofs.Words.{length-words}
use Rattle.db_catalog.specs.ColumnRanges.{AreStored}
use Rattle.narrow_columns.specs.Marks.{is_among}

-- the word of a column is that of its value
pub word-of-value : (texts : List (List ℕ)) (kinds : List ColumnType) (words : List ℤ) (column : ℕ) → AreStored texts kinds words → column < length kinds
    → slice_index_or words column (pos 0) ≡ word_of texts (value_at (values_of texts kinds words) column)
word-of-value texts kinds words column stored there =
    let row = values_of texts kinds words in
    let inside : column < length words = omega (arith, there, length-words texts kinds words stored.allowed) in
    let long : column < length row = omega (arith, inside, ap length stored.by_value, length-map row (word_of texts)) in
    get_or_default words column (pos 0) null_word inside
    ∙ ap (λ (ws : List ℤ). slice_index_or ws column null_word) stored.by_value
    ∙ get_or-map (word_of texts) row column value.Null null_word long

pub both-bounds : (a b c d : Bool) → ((a && b) && (c && d)) ≡ ((a && c) && (b && d))
both-bounds a b c d = grind arith

-- of ranges that have words, and of which neither begins far behind the other, one has each word from the least to the greatest
pub neighbours : (a b c d word : ℤ) → int_le a b ≡ true → int_le c d ≡ true → int_le a (d +ℤ pos 1) ≡ true → int_le c (b +ℤ pos 1) ≡ true
    → ((int_le a word || int_le c word) && (int_le word b || int_le word d)) ≡ (is_among a b word || is_among c d word)
neighbours a b c d word first second third fourth = grind (arith, ints, first, second, third, fourth)

-- and it has at least these of any two
pub within-hull : (p q r s : Bool) → ((p && q) || (r && s)) ≡ true → ((p || r) && (q || s)) ≡ true
within-hull p q r s met = grind (arith, met)

-- one that is exact has no other words, and one that isn't has at least those of both
pub either-or-all : (all any exact : Bool) → (any ≡ true → all ≡ true) → (exact ≡ true → all ≡ any) → all ≡ (any || (not exact && all))
either-or-all all any true least most = most refl ∙ grind arith
either-or-all true any false least most = grind arith
either-or-all false true false least most = least refl
either-or-all false false false least most = refl

pub either-alone : (all any exact : Bool) → exact ≡ true → (any || (not exact && all)) ≡ any
either-alone all any exact is = grind (arith, is)

pub some-words : (empty some : Bool) → empty ≡ not some → empty ≡ false → some ≡ true
some-words empty some is none = grind (arith, is, none)
