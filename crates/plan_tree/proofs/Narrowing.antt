-- What a range has of the words of a column, once a conjunct is looked at.
use Rattle.std.proofs.Common.{◌≡◌, ℕ, ℤ, pos, negsuc, Bool, true, false, not, ◌&&◌, ◌||◌, List, ◌∷◌, filter, nat_cmp, Some, None, option_map, ◌-◌, ◌^◌, SFits, w64, sym, ap, ◌∙◌, arith, zero, suc, ◌+ℤ◌, of_z}
use Rattle.std.proofs.lemmas.Grind.{common_steps}
use Rattle.std.specs.Prelude.{int_le, int_lt, FitsSigned}
use Rattle.std.specs.List.{position_or_len}
use Rattle.std.specs.Ordering.{int_cmp, int_eq, is_eq, is_lt, is_gt, ordering_reverse}
use Rattle.std.specs.Cmp.Lexicographic.{slice_cmp}
use Rattle.std.specs.Str.{bytes_eq}
use Rattle.std.specs.declared.cmp.Ordering.{Ordering}
use Rattle.std.proofs.lemmas.Bool.{false_from_ne_true}
use Rattle.std.proofs.lemmas.Bool.Decides.{same_from_decides, Decides-int_eq, Decides-like}
use Rattle.std.proofs.lemmas.Int.{ints}
use Rattle.std.proofs.lemmas.Map.Text.{is_eq-slice_cmp}
use Rattle.std.proofs.lemmas.Slice.Eq.{bytes_eq-Decides}
use Rattle.std.proofs.Math.Bool.{or_comm}
use Rattle.sql_values.specs.declared.op.Op.{Op}
use Rattle.sql_values.specs.declared.op.Op.TheVariants.{Eq, Ne, Lt, Le, Gt, Ge}
use Rattle.sql_values.specs.declared.column.ColumnType.{ColumnType}
use Rattle.sql_values.specs.declared.column.ColumnType.TheVariants.{Integer}
use Rattle.sql_values.specs.declared.value.Value.{Value}
use Rattle.sql_values.specs.declared.value.Value.TheVariants as value
use Rattle.sql_values.specs.Order.{value_cmp}
use Rattle.sql_values.specs.Truth.{comparison, holds, is_null}
use Rattle.sql_values.specs.Dictionary.{has_text, code_of, text_of}
use Rattle.sql_values.proofs.ValueOrder.{total}
use Rattle.sql_values.proofs.Dictionary.{position-below}
use Rattle.sql_values.proofs.Stored.{text_of-code_of}
use Rattle.sql_values.specs.Stored.{ValueRow}
use Rattle.sql_values.specs.Words.{word_of}
use Rattle.query_block.specs.Conditions.{FilterTree}
use Rattle.query_block.specs.Blocks.{kind_at, holds_texts}
use Rattle.query_block.specs.Picked.{IsStored}
use Rattle.query_block.specs.Truth.{value_at, truth_of}
use Rattle.query_block.specs.Meaning.{is_true, meets_filter}
use Rattle.plan_tree.specs.Usable.{is_range, is_fixed_usable}
use Rattle.plan_tree.specs.declared.range.WordRange.{WordRange}
use Rattle.plan_tree.specs.Ranges.{is_in, IsLiteralOf, Narrows}

-- tests of words, one against another
pub eq_is : (b : Bool) (w word : ℤ) → ((b && int_le word w) && int_le w word) ≡ (b && is_eq (int_cmp w word))
eq_is b w word = grind (arith, ints)

pub next_le : (w word : ℤ) → int_le (word +ℤ pos 1) w ≡ int_lt word w
next_le w word = grind (arith, ints)

pub lt_is : (w word : ℤ) → int_lt w word ≡ is_lt (int_cmp w word)
lt_is w word = grind (arith, ints)

pub gt_is : (w word : ℤ) → int_lt word w ≡ is_gt (int_cmp w word)
gt_is w word = grind (arith, ints)

pub next_fits : (word : ℤ) → SFits w64 word → (of_z w64 word ≡ 2 ^ 63 - 1 → ⊥) → SFits w64 (word +ℤ pos 1)
next_fits (pos n) fits less = record { sfits = omega (arith, fits.sfits, less) }
next_fits (negsuc zero) fits less = record { sfits = omega arith }
next_fits (negsuc (suc n)) fits less = grind (arith, common_steps)

-- the operator that holds of two values the other way round
abbrev turned : Op → Op
turned Eq = Eq
turned Ne = Ne
turned Lt = Gt
turned Le = Ge
turned Gt = Lt
turned Ge = Le

flips : (op : Op) (order : Ordering) → holds op (ordering_reverse order) ≡ holds (turned op) order
flips op order = grind arith

pub same_turned : (op other : Op) (a b : Value) → other ≡ turned op → comparison op a b ≡ comparison other b a
same_turned op other a b is = grind (arith, or_comm (is_null a) (is_null b), total.antisymm a b, flips op (value_cmp b a), is)

-- what is known of a range that was narrowed by a word
abbrev ByWord : Op → (word : ℤ) → (old new : WordRange) → Type 0
ByWord op word old new = (w : ℤ) → FitsSigned w64 w → is_in new w ≡ (is_in old w && (not (is_range Integer op) || holds op (int_cmp w word)))

pub by-number : (texts : List (List ℕ)) (kind : ColumnType) (op : Op) (number : ℤ) (old new : WordRange) → ByWord op number old new → IsLiteralOf kind (value.Int number)
    → Narrows texts kind old new (λ v. not (is_range kind op) || is_true (comparison op v (value.Int number)))
by-number texts kind op number old new by literal value.Null stored = cc stored.some
by-number texts kind op number old new by literal (value.Int n) stored = grind (arith, by n stored.fits, literal.1)
by-number texts kind op number old new by literal (value.Text t) stored = cc (stored.kind_is.0, literal.1)

-- a text of the dictionary has the code of another exactly where it is that one
code-there : (texts : List (List ℕ)) (t : List ℕ) → has_text texts t ≡ true → code_of texts t ≡ Some (pos (position_or_len (bytes_eq t) texts))
code-there texts t there = ap (option_map pos) (position-below (bytes_eq t) texts there)

same-code : (texts : List (List ℕ)) (t l : List ℕ) (code : ℤ) → has_text texts t ≡ true → code_of texts l ≡ Some code
    → int_eq (pos (position_or_len (bytes_eq t) texts)) code ≡ is_eq (slice_cmp nat_cmp t l)
same-code texts t l code there found =
    let own : ℤ = pos (position_or_len (bytes_eq t) texts) in
    let one_code : t ≡ l → own ≡ code = λ same.
    let both : Some own ≡ Some code = sym (code-there texts t there) ∙ ap (code_of texts) same ∙ found in
    cc in
    let one_text : own ≡ code → t ≡ l = λ same.
    let both : Some t ≡ Some l = sym (text_of-code_of texts t own (code-there texts t there)) ∙ ap (text_of texts) same ∙ text_of-code_of texts l code found in
    cc in
    same_from_decides (int_eq own code) (bytes_eq t l) (Decides-int_eq own code) (Decides-like (bytes_eq t l) one_code one_text (bytes_eq-Decides t l))
    ∙ sym (is_eq-slice_cmp t l)

pub by-code : (texts : List (List ℕ)) (kind : ColumnType) (l : List ℕ) (code : ℤ) (old new : WordRange) → ByWord Eq code old new → code_of texts l ≡ Some code → holds_texts kind ≡ true
    → Narrows texts kind old new (λ v. is_true (comparison Eq v (value.Text l)))
by-code texts kind l code old new by found text value.Null stored = cc stored.some
by-code texts kind l code old new by found text (value.Int n) stored = cc (stored.kind_is, text)
by-code texts kind l code old new by found text (value.Text t) stored =
    grind (arith, by (pos (position_or_len (bytes_eq t) texts)) stored.fits, same-code texts t l code stored.kind_is.1 found)

-- no word is from the greatest to the least
none-in : (w : ℤ) → (int_le (pos (2 ^ 63 - 1)) w && int_le w (negsuc (2 ^ 63 - 1))) ≡ false
none-in w = grind (arith, ints)

pub by-no-code : (texts : List (List ℕ)) (kind : ColumnType) (l : List ℕ) (old : WordRange) → code_of texts l ≡ None → holds_texts kind ≡ true
    → Narrows texts kind old (record { from = pos (2 ^ 63 - 1); to = negsuc (2 ^ 63 - 1) }) (λ v. is_true (comparison Eq v (value.Text l)))
by-no-code texts kind l old missing text value.Null stored = cc stored.some
by-no-code texts kind l old missing text (value.Int n) stored = cc (stored.kind_is, text)
by-no-code texts kind l old missing text (value.Text t) stored =
    grind (arith, common_steps, false_from_ne_true, code-there, bytes_eq-Decides, none-in, is_eq-slice_cmp)

-- whether a row meets a conjunct, if it has no parameter and an index on the column can use it
abbrev passes : List ColumnType → (column : ℕ) → FilterTree → ValueRow → Bool
passes columns column conjunct row = not (is_fixed_usable columns column conjunct) || is_true (truth_of conjunct row)

-- a conjunct that the index can't use narrows nothing
pub unusable : (texts : List (List ℕ)) (columns : List ColumnType) (column : ℕ) (conjunct : FilterTree) (old : WordRange) → is_fixed_usable columns column conjunct ≡ false
    → (row : ValueRow) → IsStored texts (kind_at columns column) (value_at row column)
    → is_in old (word_of texts (value_at row column)) ≡ (is_in old (word_of texts (value_at row column)) && passes columns column conjunct row)
unusable texts columns column conjunct old none row stored = grind (arith, none)

-- one conjunct after another
pub next-conjunct : (columns : List ColumnType) (column : ℕ) (conjunct : FilterTree) (more : List FilterTree) (row : ValueRow) (old new : Bool)
    → new ≡ (old && passes columns column conjunct row)
    → (new && meets_filter (filter (is_fixed_usable columns column) more) row) ≡ (old && meets_filter (filter (is_fixed_usable columns column) (conjunct ∷ more)) row)
next-conjunct columns column conjunct more row old new is = grind arith

-- every word is from the least to the greatest
pub every-word : (w : ℤ) → SFits w64 w → (int_le (negsuc (2 ^ 63 - 1)) w && int_le w (pos (2 ^ 63 - 1))) ≡ true
every-word w fits = grind (arith, ints)
