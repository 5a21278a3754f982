-- Ranges of words, and in which rows a column has words of a range.
use Rattle.std.specs.Prelude.{◌≡◌, ◌≢◌, ℕ, ℤ, ◌&&◌, ◌||◌, not, Bool, List, int_le, FitsSigned}
use Rattle.std.specs.Int.{w64}
use Rattle.sql_values.specs.declared.column.ColumnType.{ColumnType}
use Rattle.sql_values.specs.declared.value.Value.{Value}
use Rattle.sql_values.specs.declared.value.Value.TheVariants as value
use Rattle.sql_values.specs.Words.{word_of}
use Rattle.sql_values.specs.Stored.{ValueRow}
use Rattle.query_block.specs.declared.kind.Kind.{Kind}
use Rattle.query_block.specs.Conditions.{FilterTree}
use Rattle.query_block.specs.Truth.{value_at, truth_of}
use Rattle.query_block.specs.Blocks.{kind_at, holds_texts, is_text, FitsColumns}
use Rattle.query_block.specs.Picked.{IsStored, Picks}
use Rattle.query_block.specs.Meaning.{is_true, meets_filter}
use Rattle.plan_tree.specs.Usable.{is_fixed_usable}
use Rattle.plan_tree.specs.declared.range.WordRange.{WordRange}

-- whether a word is in the range
abbrev pub is_in : WordRange → ℤ → Bool
is_in range word = int_le range.from word && int_le word range.to

-- the literal is of the kind of a column
abbrev pub IsLiteralOf : ColumnType → Value → Type 0
IsLiteralOf kind literal = (literal ≢ value.Null) × (holds_texts kind ≡ is_text literal)

-- of the words of a column's values a new range has those of the old one that pass a test
abbrev pub Narrows : List (List ℕ) → ColumnType → (old new : WordRange) → (Value → Bool) → Type 0
Narrows texts kind old new test =
    (v : Value) → IsStored texts kind v → is_in new (word_of texts v) ≡ (is_in old (word_of texts v) && test v)

-- the same of the rows that meet a conjunct, if it has no parameter and an index on the column can use it; so it is in
-- columns that fit it, of whatever kinds the parameters are
abbrev pub NarrowsBy : List (List ℕ) → (column : ℕ) → (old new : WordRange) → FilterTree → Type 0
NarrowsBy texts column old new conjunct =
    (kinds : List Kind) (columns : List ColumnType) → FitsColumns kinds columns conjunct
    → (row : ValueRow) → IsStored texts (kind_at columns column) (value_at row column)
    → is_in new (word_of texts (value_at row column))
    ≡ (is_in old (word_of texts (value_at row column)) && (not (is_fixed_usable columns column conjunct) || is_true (truth_of conjunct row)))

-- of the words of 64 bits a new range has those of the old one that pass a test
abbrev pub NarrowsWords : (old new : WordRange) → (ℤ → Bool) → Type 0
NarrowsWords old new test = (word : ℤ) → FitsSigned w64 word → is_in new word ≡ (is_in old word && test word)

-- a range has exactly the words of a column in rows that meet these conjuncts
abbrev pub Finds : List (List ℕ) → List ColumnType → (column : ℕ) → WordRange → List FilterTree → Type 0
Finds texts columns column range conjuncts = Picks texts columns column range.from range.to (meets_filter conjuncts)
