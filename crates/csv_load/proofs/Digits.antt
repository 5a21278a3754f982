-- Numbers read digit by digit.
use Rattle.std.proofs.Common.{◌≡◌, ℕ, ◌+◌, ◌-◌, ◌*◌, ◌<◌, ◌≤◌, true, false, List, [], ◌∷◌, length, drop, get_or, refl, ap, ◌∙◌, arith}
use Rattle.std.specs.Prelude.{nat_le}
use Rattle.std.specs.Char.{is_ascii_digit, digit_value}
use Rattle.std.specs.Str.{all_ascii_digits}
use Rattle.std.specs.Str.Parse.{digits_value_after}
use Rattle.std.proofs.lemmas.List.{at_drop_more, drop_all}
use Rattle.std.proofs.lemmas.Bool.Decides.{nat_tests}
use borrow.Author.Tests.{le-leb}
use Rattle.csv_load.specs.Field.{are_digits}

pub are_digits-some : (digits : List ℕ) → 1 ≤ length digits → are_digits digits ≡ all_ascii_digits digits
are_digits-some digits some = let there : nat_le 1 (length digits) ≡ true = le-leb 1 (length digits) some in rw there refl

pub are_digits-none : (digits : List ℕ) → length digits ≡ 0 → are_digits digits ≡ false
are_digits-none [] e = refl
are_digits-none (d ∷ ds) e = absurd (omega arith)

-- more digits write no smaller number
digits_value_after-ge : (digits : List ℕ) (n : ℕ) → n ≤ digits_value_after 10 n digits
digits_value_after-ge [] n = omega arith
digits_value_after-ge (d ∷ ds) n = omega (arith, digits_value_after-ge ds (n * 10 + digit_value d))

digit_value-digit : (d : ℕ) → is_ascii_digit d ≡ true → digit_value d ≡ d - 48
digit_value-digit d e = grind (arith, nat_tests)

pub digits_value_after-drop : (digits : List ℕ) (i n : ℕ) → i < length digits → is_ascii_digit (get_or digits i 0) ≡ true
    → digits_value_after 10 n (drop i digits) ≡ digits_value_after 10 (n * 10 + (get_or digits i 0 - 48)) (drop (i + 1) digits)
digits_value_after-drop digits i n inside digit =
    at_drop_more (digits_value_after 10 n) digits i 0 inside ∙ ap (λ d. digits_value_after 10 (n * 10 + d) (drop (i + 1) digits)) (digit_value-digit (get_or digits i 0) digit)

pub all_ascii_digits-drop : (digits : List ℕ) (i : ℕ) → i < length digits → is_ascii_digit (get_or digits i 0) ≡ true
    → all_ascii_digits (drop i digits) ≡ all_ascii_digits (drop (i + 1) digits)
all_ascii_digits-drop digits i inside digit = at_drop_more all_ascii_digits digits i 0 inside ∙ rw digit refl

pub all_ascii_digits-drop_other : (digits : List ℕ) (i : ℕ) → i < length digits → is_ascii_digit (get_or digits i 0) ≡ false
    → all_ascii_digits (drop i digits) ≡ false
all_ascii_digits-drop_other digits i inside other = at_drop_more all_ascii_digits digits i 0 inside ∙ rw other refl

pub all_ascii_digits-drop_all : (digits : List ℕ) (i : ℕ) → length digits ≤ i → all_ascii_digits (drop i digits) ≡ true
all_ascii_digits-drop_all digits i last = rw (drop_all i digits last) refl

pub digits_value_after-drop_all : (digits : List ℕ) (i n : ℕ) → length digits ≤ i → digits_value_after 10 n (drop i digits) ≡ n
digits_value_after-drop_all digits i n last = rw (drop_all i digits last) refl

pub digits_value_after-drop-ge : (digits : List ℕ) (i n : ℕ) → n ≤ digits_value_after 10 n (drop i digits)
digits_value_after-drop-ge digits i n = digits_value_after-ge (drop i digits) n

pub ruleset of_digits = (are_digits-some, are_digits-none, digits_value_after-drop, all_ascii_digits-drop, all_ascii_digits-drop_other, all_ascii_digits-drop_all, digits_value_after-drop_all, digits_value_after-drop-ge)
