-- The INTEGER of a text is its digits' number below its sign; such a text is UTF-8.
use Rattle.std.proofs.Common.{◌≡◌, ◌≢◌, ℕ, ◌<◌, ◌≤◌, Bool, true, false, ◌&&◌, List, [], ◌∷◌, length, drop, Some, None, refl, sym, ◌∙◌, arith}
use Rattle.std.specs.Prelude.{nat_le, nat_lt, ◌==◌, pos, neg_ℤ, ◌-ℤ◌, cond}
use Rattle.std.specs.Str.{IsAscii, is_utf8, all_ascii_digits}
use Rattle.std.specs.Char.{is_ascii_digit}
use Rattle.std.specs.Str.Parse.{digits_value, signed_digits_value, without_leading_sign, starts_with_minus}
use Rattle.std.proofs.lemmas.Str.{IsUtf8-from_ascii, is_utf8-from_IsUtf8}
use Rattle.std.proofs.lemmas.Str.Ascii.{IsAscii-cons, IsAscii-nil}
use Rattle.std.proofs.lemmas.Bool.Decides.{nat_tests}
use Rattle.std.proofs.lemmas.Int.{ints}
use borrow.Author.Tests.{lt-ltb, eqb-true}
use mir.Syntax.{w64}
use mir.Val.{to_z, of_z}
use Rattle.sql_values.specs.Words.{null_word}
use Rattle.sql_values.specs.declared.column.ColumnType.{ColumnType}
use Rattle.sql_values.specs.declared.column.ColumnType.TheVariants.{Integer}
use Rattle.csv_load.specs.declared.place.Place.{Place}
use Rattle.csv_load.specs.declared.fault.LoadFault.TheVariants.{NotUtf8, NotInteger, OutOfRange}
use Rattle.csv_load.specs.Field.{greatest_integer, are_digits, text_fault}

and_both : (a b : Bool) → (a && b) ≡ true → (a ≡ true) × (b ≡ true)
and_both true b e = (refl, e)
and_both false b e = cc e

digits_ascii : (digits : List ℕ) → all_ascii_digits digits ≡ true → IsAscii digits
digits_ascii [] e = IsAscii-nil
digits_ascii (d ∷ ds) e =
    let both = and_both (is_ascii_digit d) (all_ascii_digits ds) e in
    IsAscii-cons d ds (small d both.0) (digits_ascii ds both.1)
  where
    small : (d : ℕ) → is_ascii_digit d ≡ true → d < 128
    small d e = grind (arith, nat_tests)

-- a sign before digits is one byte of ASCII
integer_ascii : (text : List ℕ) → all_ascii_digits (without_leading_sign text) ≡ true → IsAscii text
integer_ascii [] e = IsAscii-nil
integer_ascii (c ∷ cs) e = by (c == 45) refl (c == 43) refl e
  where
    by : (minus : Bool) → (c == 45) ≡ minus → (plus : Bool) → (c == 43) ≡ plus
        → all_ascii_digits (cond minus cs (drop (cond plus 1 0) (c ∷ cs))) ≡ true → IsAscii (c ∷ cs)
    by true m plus p e = IsAscii-cons c cs (omega (arith, eqb-true c 45 m)) (digits_ascii cs e)
    by false m true p e = IsAscii-cons c cs (omega (arith, eqb-true c 43 p)) (digits_ascii cs e)
    by false m false p e = digits_ascii (c ∷ cs) e

integer_utf8 : (text : List ℕ) → are_digits (without_leading_sign text) ≡ true → is_utf8 text ≡ true
integer_utf8 text e =
    let both = and_both (nat_le 1 (length (without_leading_sign text))) (all_ascii_digits (without_leading_sign text)) e in
    is_utf8-from_IsUtf8 text (IsUtf8-from_ascii text (integer_ascii text both.1))

pub text_fault-bytes : (place : Place) (kind : ColumnType) (text : List ℕ) → is_utf8 text ≡ false → text_fault place kind text ≡ Some (NotUtf8 place.entry place.field)
unfolding text_fault
text_fault-bytes place kind text e = rw e refl

pub text_fault-other : (place : Place) (text : List ℕ) → is_utf8 text ≡ true → are_digits (without_leading_sign text) ≡ false
    → text_fault place Integer text ≡ Some (NotInteger place.entry place.field)
unfolding text_fault
text_fault-other place text e other = rw (e, other) refl

pub text_fault-past : (place : Place) (text : List ℕ) → are_digits (without_leading_sign text) ≡ true → greatest_integer < digits_value 10 (without_leading_sign text)
    → text_fault place Integer text ≡ Some (OutOfRange place.entry place.field)
unfolding text_fault
text_fault-past place text digits past =
    let beyond : nat_lt greatest_integer (digits_value 10 (without_leading_sign text)) ≡ true = lt-ltb _ _ past in
    rw (integer_utf8 text digits, digits, beyond) refl

pub text_fault-integer : (place : Place) (text : List ℕ) → are_digits (without_leading_sign text) ≡ true → digits_value 10 (without_leading_sign text) ≤ greatest_integer
    → text_fault place Integer text ≡ None
unfolding text_fault
text_fault-integer place text digits within =
    let inside : nat_lt greatest_integer (digits_value 10 (without_leading_sign text)) ≡ false = grind (arith, nat_tests) in
    rw (integer_utf8 text digits, digits, inside) refl

signed : (text : List ℕ) (n : ℕ) (minus : Bool) → digits_value 10 (without_leading_sign text) ≡ n → starts_with_minus text ≡ minus
    → signed_digits_value 10 text ≡ (cond minus (neg_ℤ (pos n)) (pos n))
signed text n minus e sign = by (starts_with_minus text) (digits_value 10 (without_leading_sign text)) sign e
  where
    by : (m : Bool) (v : ℕ) → m ≡ minus → v ≡ n → (cond m (neg_ℤ (pos v)) (pos v)) ≡ (cond minus (neg_ℤ (pos n)) (pos n))
    by m v s e = rw (s, e) refl

pub positive : (text : List ℕ) (n : ℕ) → digits_value 10 (without_leading_sign text) ≡ n → n ≤ greatest_integer → starts_with_minus text ≡ false
    → to_z w64 n ≡ signed_digits_value 10 text
positive text n e small sign =
    let number : to_z w64 n ≡ pos n = omega (arith, ints) in
    number ∙ sym (signed text n false e sign)

pub negative : (text : List ℕ) (n : ℕ) → digits_value 10 (without_leading_sign text) ≡ n → n ≤ greatest_integer → starts_with_minus text ≡ true
    → to_z w64 (of_z w64 (pos 0 -ℤ to_z w64 n)) ≡ signed_digits_value 10 text
negative text n e small sign =
    let number : to_z w64 (of_z w64 (pos 0 -ℤ to_z w64 n)) ≡ neg_ℤ (pos n) = omega (arith, ints) in
    number ∙ sym (signed text n true e sign)

pub positive-not_null : (n : ℕ) → n ≤ greatest_integer → to_z w64 n ≢ null_word
positive-not_null n small = λ e. omega (arith, ints)

pub negative-not_null : (n : ℕ) → n ≤ greatest_integer → to_z w64 (of_z w64 (pos 0 -ℤ to_z w64 n)) ≢ null_word
negative-not_null n small = λ e. omega (arith, ints)

pub ruleset of_integers = (text_fault-bytes, text_fault-other, text_fault-past, text_fault-integer, positive, negative, positive-not_null, negative-not_null)
