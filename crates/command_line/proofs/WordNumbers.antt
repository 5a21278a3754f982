-- Numbers of 1 to 19 decimal digits, as `parse` reads them.
use Rattle.std.proofs.Common.{◌≡◌, ◌∙◌, ℕ, ◌^◌, ◌<◌, ◌≤◌, ◌&&◌, Bool, true, false, List, [], ◌∷◌, length, refl, sym, subst, arith}
use Rattle.std.specs.Prelude.{nat_le, ◌==◌}
use Rattle.std.specs.List.{list_all}
use Rattle.std.specs.Char.{digit_value, is_ascii_digit}
use Rattle.std.specs.Str.Parse.{AllDigits, IsNumeral, digits_value, without_leading_plus}
use Rattle.std.proofs.Math.Nat.{pow-le-pow_right}
use Rattle.std.proofs.lemmas.Bool.{leb-true}
use Rattle.std.proofs.lemmas.Bool.Decides.{nat_tests}
use Rattle.std.proofs.lemmas.Int.Digits.{digits_value-lt}
use Rattle.clap.proofs.WalkLemmas.{both}
use Rattle.command_line.specs.Words.{is_number}

digit_below : (byte : ℕ) → is_ascii_digit byte ≡ true → digit_value byte < 10
digit_below byte e = grind (arith, nat_tests)

all_digits : (text : List ℕ) → list_all is_ascii_digit text ≡ true → AllDigits 10 text
all_digits [] e = tt
all_digits (byte ∷ rest) e = (digit_below byte (both _ _ e).0, all_digits rest (both _ _ e).1)

no_plus : (text : List ℕ) → list_all is_ascii_digit text ≡ true → without_leading_plus text ≡ text
no_plus [] e = refl
no_plus (byte ∷ rest) e =
    let digit : is_ascii_digit byte ≡ true = (both _ _ e).0 in
    let other : (byte == 43) ≡ false = grind (arith, nat_tests) in
    rw other refl

-- `parse` reads such a number, at 64 bits
pub reads_number : (text : List ℕ) {test : Bool} → test ≡ is_number text → test ≡ true
    → ((IsNumeral 10 (without_leading_plus text) × (digits_value 10 (without_leading_plus text) < 2 ^ 64)) → ⊥) → ⊥
reads_number text is e fails =
    let whole : is_number text ≡ true = sym is ∙ e in
    let parts = both (nat_le 1 (length text) && nat_le (length text) 19) (list_all is_ascii_digit text) whole in
    let lengths = both (nat_le 1 (length text)) (nat_le (length text) 19) parts.0 in
    let digits = all_digits text parts.1 in
    let below = digits_value-lt 10 text digits in
    let least : 1 ≤ length text = leb-true 1 (length text) lengths.0 in
    let most : length text ≤ 19 = leb-true (length text) 19 lengths.1 in
    let power : 10 ^ length text ≤ 10 ^ 19 = pow-le-pow_right (omega arith) most in
    let fits : digits_value 10 text < 2 ^ 64 = omega arith in
    fails (subst (λ t. IsNumeral 10 t × (digits_value 10 t < 2 ^ 64)) (sym (no_plus text parts.1)) ((least, digits), fits))
