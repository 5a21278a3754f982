-- A number is read of its decimal text alone.
use Rattle.std.proofs.Common.{◌≡◌, ℕ, ◌^◌, ◌<◌, ◌&&◌, Bool, true, false, cond, List, Some, None, Result, Ok, Err, decimal, bytes_eq, nat_lt, refl, sym, ap, ◌∙◌, subst, arith}
use Rattle.std.specs.Str.Parse.{digits_value, ParsesUnsigned}
use Rattle.std.proofs.lemmas.Bool.{lt-ltb, ltb-true, and_parts}
use Rattle.std.proofs.lemmas.Fmt.{decimal_is_IsNumeral_wide, parse-decimal_wide}
use Rattle.std.proofs.lemmas.Slice.Eq.{bytes_eq-Decides}
use Rattle.bouquet_file.specs.Values.{decimal_number}

pub number-again : (n : ℕ) → n < 2 ^ 128 → decimal_number (decimal n) ≡ Some n
number-again n few =
    let value : digits_value 10 (decimal n) ≡ n = (decimal_is_IsNumeral_wide n (omega (arith, few))).1 in
    rw (value, lt-ltb n (2 ^ 128) few, (bytes_eq-Decides (decimal n) (decimal n)).1 refl) refl

none-unless : (text : List ℕ) → ((n : ℕ) → n < 2 ^ 128 → text ≡ decimal n → ⊥) → decimal_number text ≡ None
none-unless text not_written = by (nat_lt number (2 ^ 128) && bytes_eq (decimal number) text) refl
  where
    number : ℕ
    number = digits_value 10 text

    by : (b : Bool) → (nat_lt number (2 ^ 128) && bytes_eq (decimal number) text) ≡ b → cond b (Some number) None ≡ None
    by true e =
        let parts = and_parts (nat_lt number (2 ^ 128)) (bytes_eq (decimal number) text) e in
        absurd (not_written number (ltb-true number (2 ^ 128) parts.0) (sym ((bytes_eq-Decides (decimal number) text).0 parts.1)))
    by false e = refl

-- what parsing gives for the decimal text of a number
parsed : {E : Type 0} (text : List ℕ) (r : Result ℕ E) (n : ℕ) → ParsesUnsigned 128 10 text r → n < 2 ^ 128 → text ≡ decimal n → r ≡ Ok n
parsed text r n parses few is = parse-decimal_wide 128 n text r few (omega (arith, few)) is parses

abbrev value-of : {E : Type 0} → Result ℕ E → ℕ
value-of (Ok n) = n
value-of (Err why) = 0

pub written-number : (text : List ℕ) (n : ℕ) → n < 2 ^ 128 → bytes_eq (decimal n) text ≡ true → decimal_number text ≡ Some n
written-number text n few same = subst (λ t. decimal_number t ≡ Some n) ((bytes_eq-Decides (decimal n) text).0 same) (number-again n few)

pub other-number : {E : Type 0} (text : List ℕ) (r : Result ℕ E) (n : ℕ) → ParsesUnsigned 128 10 text r → r ≡ Ok n → bytes_eq (decimal n) text ≡ false → decimal_number text ≡ None
other-number text r n parses is other =
    none-unless text (λ m few written.
    let same : n ≡ m = ap value-of (sym is ∙ parsed text r m parses few written) in
    grind (arith, other, (bytes_eq-Decides (decimal n) text).1 (ap decimal same ∙ sym written)))

pub no-number : {E : Type 0} (text : List ℕ) (r : Result ℕ E) (why : E) → ParsesUnsigned 128 10 text r → r ≡ Err why → decimal_number text ≡ None
no-number text r why parses is =
    none-unless text (λ m few written. let same = sym is ∙ parsed text r m parses few written in cc)

pub few-parsed : {E : Type 0} (text : List ℕ) (r : Result ℕ E) (n : ℕ) → ParsesUnsigned 128 10 text r → r ≡ Ok n → n < 2 ^ 128
few-parsed text (Ok m) n parses is = omega (arith, parses.1, parses.0.1, ap value-of is)
few-parsed text (Err why) n parses is = cc
