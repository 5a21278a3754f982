-- The words of a column that is equal to a value, and values one after another.
use Rattle.std.proofs.Common.{◌≡◌, ℕ, ℤ, pos, negsuc, ◌+◌, ◌-◌, ◌^◌, ◌<◌, ◌&&◌, ◌||◌, Bool, true, false, not, Some, None, FitsSigned, w64, List, [], ◌∷◌, ◌++◌, length, get_or, take, refl, sym, ap, ◌∙◌, arith}
use Rattle.std.specs.Prelude.{int_le}
use Rattle.std.specs.Ordering.{int_cmp, is_eq}
use Rattle.std.proofs.lemmas.List.{take_more}
use Rattle.sql_values.specs.declared.column.ColumnType.{ColumnType}
use Rattle.sql_values.specs.declared.op.Op.TheVariants.{Eq}
use Rattle.sql_values.specs.declared.column.ColumnType.TheVariants.{Integer, Varchar}
use Rattle.sql_values.specs.declared.value.Value.{Value}
use Rattle.sql_values.specs.declared.value.Value.TheVariants as value
use Rattle.sql_values.specs.Dictionary.{code_of}
use Rattle.sql_values.specs.Stored.{ValueRow}
use Rattle.sql_values.specs.Truth.{comparison, is_null}
use Rattle.sql_values.specs.Words.{word_of}
use Rattle.query_block.specs.declared.condition.Operand.{Operand}
use Rattle.query_block.specs.Blocks.{holds_texts, kind_at}
use Rattle.query_block.specs.Meaning.{is_true}
use Rattle.query_block.specs.Truth.{one_of, operand_value, value_at}
use Rattle.plan_tree.specs.declared.range.WordRange.{WordRange}
use Rattle.plan_tree.specs.Usable.{is_range}
use Rattle.plan_tree.specs.Ranges.{IsLiteralOf, Narrows, is_in}
use Rattle.plan_tree.proofs.Narrowing.{by-code, by-no-code, by-number, eq_is, every-word}
use Rattle.db_catalog.specs.ColumnRanges.{IsRangeOf}
use Rattle.row_filter.proofs.OrParts.{or-first, true-or}

abbrev pub every : WordRange
every = record { from = negsuc (2 ^ 63 - 1); to = pos (2 ^ 63 - 1) }

equal-some : (a b : Value) → is_true (comparison Eq a b) ≡ true → is_null a ≡ false
equal-some a b is = grind arith

-- of all words those that are left by the test for the value
pub equal-range : (texts : List (List ℕ)) (kinds : List ColumnType) (column : ℕ) (v : Value) (from to : ℤ) → column < length kinds
    → Narrows texts (kind_at kinds column) every (record { from = from; to = to }) (λ a. is_true (comparison Eq a v))
    → IsRangeOf texts kinds (λ row. is_true (comparison Eq (value_at row column) v)) (record { column = column; from = from; to = to })
equal-range texts kinds column v from to there narrows = record {
  there = there;
  some = λ row met. equal-some (value_at row column) v met;
  picks = λ row stored.
      let all : is_in every (word_of texts (value_at row column)) ≡ true = every-word (word_of texts (value_at row column)) stored.fits in
      narrows (value_at row column) stored ∙ ap (λ b. b && is_true (comparison Eq (value_at row column) v)) all;
}

by-equal : (w n : ℤ) → FitsSigned w64 w → (int_le n w && int_le w n) ≡ (is_in every w && is_eq (int_cmp w n))
by-equal w n fits = eq_is true w n ∙ ap (λ b. b && is_eq (int_cmp w n)) (sym (every-word w fits))

equal-is-range : (kind : ColumnType) → is_range kind Eq ≡ true
equal-is-range Integer = refl
equal-is-range (Varchar most) = refl

-- those of a number, of a text with a code, and of a text that no row has
pub number-narrows : (texts : List (List ℕ)) (kind : ColumnType) (n : ℤ) → IsLiteralOf kind (value.Int n) → Narrows texts kind every (record { from = n; to = n }) (λ a. is_true (comparison Eq a (value.Int n)))
number-narrows texts kind n literal = λ v stored.
    by-number texts kind Eq n every (record { from = n; to = n }) (λ w fits. by-equal w n fits) literal v stored
    ∙ ap (λ b. is_in every (word_of texts v) && (not b || is_true (comparison Eq v (value.Int n)))) (equal-is-range kind)

pub code-narrows : (texts : List (List ℕ)) (kind : ColumnType) (text : List ℕ) (code : ℤ) → code_of texts text ≡ Some code → holds_texts kind ≡ true
    → Narrows texts kind every (record { from = code; to = code }) (λ a. is_true (comparison Eq a (value.Text text)))
code-narrows texts kind text code found texts_are = by-code texts kind text code every (record { from = code; to = code }) (λ w fits. by-equal w code fits) found texts_are

pub none-narrows : (texts : List (List ℕ)) (kind : ColumnType) (text : List ℕ) → code_of texts text ≡ None → holds_texts kind ≡ true
    → Narrows texts kind every (record { from = pos (2 ^ 63 - 1); to = negsuc (2 ^ 63 - 1) }) (λ a. is_true (comparison Eq a (value.Text text)))
none-narrows texts kind text missing texts_are = by-no-code texts kind text every missing texts_are

-- ---- a value more

values-append : (operands : List Operand) (operand : Operand) (row : ValueRow) (x : Value)
    → is_true (one_of row x (operands ++ operand ∷ [])) ≡ (is_true (one_of row x operands) || is_true (comparison Eq x (operand_value row operand)))
values-append [] operand row x = true-or (comparison Eq x (operand_value row operand)) (one_of row x []) ∙ grind arith
values-append (one ∷ operands) operand row x =
    let here = comparison Eq x (operand_value row one) in
    true-or here (one_of row x (operands ++ operand ∷ []))
    ∙ ap (λ b. is_true here || b) (values-append operands operand row x)
    ∙ or-first (is_true here) (is_true (one_of row x operands)) (is_true (comparison Eq x (operand_value row operand)))
    ∙ ap (λ b. b || is_true (comparison Eq x (operand_value row operand))) (sym (true-or here (one_of row x operands)))

pub value-more : (operands : List Operand) (i : ℕ) (operand : Operand) (before : Bool) (row : ValueRow) (x : Value) → i < length operands → operand ≡ get_or operands i operand
    → ((before || is_true (one_of row x (take i operands))) || is_true (comparison Eq x (operand_value row operand))) ≡ (before || is_true (one_of row x (take (i + 1) operands)))
value-more operands i operand before row x below is =
    let whole : List Operand → Bool = λ some. is_true (one_of row x some) in
    sym (or-first before (whole (take i operands)) (is_true (comparison Eq x (operand_value row operand))))
    ∙ ap (λ b. before || b)
    (sym (values-append (take i operands) operand row x) ∙ ap (λ (one : Operand). whole (take i operands ++ one ∷ [])) is ∙ ap whole (sym (take_more operands i operand below)))
