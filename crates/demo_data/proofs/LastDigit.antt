-- A number that ends in 0, and one that differs from it in the last digit.
use Rattle.std.proofs.Common.{◌≡◌, ℕ, suc, ◌+◌, ◌-◌, ◌%◌, ◌^◌, ◌<◌, List, [], ◌∷◌, ◌++◌, length, set, take, refl, sym, ap, ◌∙◌, ⊎_elim, arith, length-append, append_assoc, rules}
use Rattle.std.specs.Fmt.{decimal}
use Rattle.std.proofs.Math.Seq.{take-append-add}
use Rattle.std.proofs.lemmas.Bool.{cases_lt}
use Rattle.std.proofs.lemmas.Fmt.{decimal_digit, decimal_step, decimal_nonempty}
use Rattle.std.proofs.lemmas.List.{length-set, set-append_left, set-append_right}
use Rattle.demo_data.specs.Demo.{entry_line}

set_behind : (front xs : List ℕ) (i y : ℕ) → set (front ++ xs) (length front + i) y ≡ front ++ set xs i y
set_behind front xs i y =
    let place : length front + i - length front ≡ i = omega arith in
    set-append_right front xs (length front) (length front + i) y refl (omega arith)
    ∙ ap (λ k. front ++ set xs k y) place

-- what is done to a line behind a text is done to the line
pub digits_behind : (text line : List ℕ) (first second end digit : ℕ)
    → set (set (take (length text + end) (text ++ line)) (length text + first) digit) (length text + second) digit
    ≡ text ++ set (set (take end line) first digit) second digit
digits_behind text line first second end digit = search (rules, take-append-add, set_behind)

set-last : (front : List ℕ) (old new : ℕ)
    → set (front ++ old ∷ []) (length (front ++ old ∷ []) - 1) new ≡ front ++ new ∷ []
set-last front old new =
    let end : length (front ++ old ∷ []) ≡ length front + 1 = length-append front (old ∷ []) in
    let place : length (front ++ old ∷ []) - 1 ≡ length front + 0 = omega (arith, end) in
    ap (λ i. set (front ++ old ∷ []) i new) place ∙ set_behind front (old ∷ []) 0 new

pub last_digit : (n d : ℕ) → n % 10 ≡ 0 → d < 10 → n + d < 2 ^ 64
    → set (decimal n) (length (decimal n) - 1) (48 + d) ≡ decimal (n + d)
last_digit n d ends small fits = search (rules, ⊎_elim, decimal_digit, decimal_step, set-last, cases_lt)

set-front : (n d : ℕ) (rest : List ℕ) → n % 10 ≡ 0 → d < 10 → n + d < 2 ^ 64
    → set (decimal n ++ rest) (length (decimal n) - 1) (48 + d) ≡ decimal (n + d) ++ rest
set-front n d rest ends small fits = search (rules, decimal_nonempty, set-append_left, last_digit)

parts-entry : (a b : ℕ) → entry_line a b ≡ decimal a ++ 44 ∷ (decimal b ++ 10 ∷ [])
parts-entry a b = search (rules, append_assoc)

-- so an entry is another's line with two digits set
pub line_of_digits : (a b d : ℕ) → a % 10 ≡ 0 → b % 10 ≡ 0 → d < 10 → a + d < 2 ^ 64 → b + d < 2 ^ 64
    → set (set (entry_line a b) (length (decimal a) - 1) (48 + d)) (length (decimal a) + length (decimal b)) (48 + d)
    ≡ entry_line (a + d) (b + d)
line_of_digits a b d ends_first ends_second small fits_first fits_second =
    let behind = 44 ∷ (decimal b ++ 10 ∷ []) in
    let some : 0 < length (decimal b) = decimal_nonempty b (omega (arith, fits_second)) in
    let kept : length (decimal (a + d)) ≡ length (decimal a) =
    ap length (sym (last_digit a d ends_first small fits_first))
    ∙ length-set (decimal a) (length (decimal a) - 1) (48 + d) in
    let place : length (decimal a) + length (decimal b) ≡ length (decimal (a + d)) + suc (length (decimal b) - 1) =
    omega (arith, some, kept) in
    ap (λ line. set (set line (length (decimal a) - 1) (48 + d)) (length (decimal a) + length (decimal b)) (48 + d))
    (parts-entry a b)
    ∙ ap (λ line. set line (length (decimal a) + length (decimal b)) (48 + d))
    (set-front a d behind ends_first small fits_first)
    ∙ ap (λ i. set (decimal (a + d) ++ behind) i (48 + d)) place
    ∙ set_behind (decimal (a + d)) behind (suc (length (decimal b) - 1)) (48 + d)
    ∙ ap (λ second. decimal (a + d) ++ 44 ∷ second) (set-front b d (10 ∷ []) ends_second small fits_second)
    ∙ sym (parts-entry (a + d) (b + d))
