-- The number of binary digits.
use Rattle.std.proofs.Common.{◌≡◌, ℕ, zero, suc, ◌+◌, ◌*◌, ◌^◌, ◌<◌, ◌≤◌, ltb, ap, ◌∙◌, inl, inr, arith}
use Rattle.std.specs.Prelude.{Bool, true, false}
use Rattle.std.proofs.lemmas.Bool.{cases_order}
use Rattle.std.proofs.lemmas.Bool.Decides.{nat_tests}
use Rattle.std.proofs.lemmas.Nat.{leading_length}
use Rattle.std.proofs.lemmas.Grind.{pow_more}
use Rattle.std.proofs.Math.Nat.{pow-le-pow_right, lt_of_not-le}
use Rattle.btree_index.specs.Height.{least_from}
use Rattle.std.proofs.lemmas.Nat.{mul-le}
use Rattle.plan_tree.specs.Work.{bits, sort_work}

-- the least number that passes, where all before it fail
pub least-is : (more at k : ℕ) (test : ℕ → Bool) → at ≤ k → k ≤ at + more → ((j : ℕ) → at ≤ j → j < k → test j ≡ false) → test k ≡ true
    → least_from more at test ≡ k
least-is zero at k test from to before met = omega (arith, from, to)
least-is (suc more) at k test from to before met =
    elim (cases_order at k) [
      | inl same ↦ rw (ap test same ∙ met) same
      | inr order ↦ elim order [
        | inl less ↦
            rw (before at (omega arith) less) (least-is more (at + 1) k test (omega (arith, less)) (omega (arith, to)) (λ j past. before j (omega (arith, past))) met)
        | inr past ↦ absurd (omega (arith, past, from))
      ]
    ]

-- a number has so many digits
pub record HasDigits (n digits : ℕ) : Type 0 where
  pub below : n < 2 ^ digits
  pub above : 2 ^ digits ≤ 2 * n + 1

below-pow : (n : ℕ) → n < 2 ^ n
below-pow zero = omega arith
below-pow (suc n) = omega (arith, below-pow n, pow_more 2 n)

few-digits : (n digits : ℕ) → HasDigits n digits → digits ≤ n
few-digits n zero has = omega arith
few-digits n (suc digits) has = omega (arith, below-pow digits, pow_more 2 digits, has.above)

pub bits-is : (n digits : ℕ) → HasDigits n digits → bits n ≡ digits
bits-is n digits has =
    let before : (j : ℕ) → j < digits → ltb n (2 ^ j) ≡ false = λ j less.
    let next : 2 ^ (j + 1) ≤ 2 ^ digits = pow-le-pow_right (omega arith) (omega (arith, less)) in
    let past : 2 ^ j ≤ n = omega (arith, next, has.above, pow_more 2 j) in
    grind (arith, nat_tests, past) in
    let met : ltb n (2 ^ digits) ≡ true = grind (arith, nat_tests, has.below) in
    least-is n 0 digits (λ d. ltb n (2 ^ d)) (omega arith) (omega (arith, few-digits n digits has)) (λ j _. before j) met

-- fewer digits for a smaller number
pub digits-le : (n m digits more : ℕ) → n ≤ m → HasDigits n digits → HasDigits m more → digits ≤ more
digits-le n m digits more le has has' =
    let below : digits < more + 1 = lt_of_not-le (λ past.
    let least : 2 ^ (more + 1) ≤ 2 ^ digits = pow-le-pow_right (omega arith) past in
    omega (arith, least, pow_more 2 more, has.above, has'.below, le)) in
    omega (arith, below)

pub some-digits : (n : ℕ) → (digits : ℕ) × HasDigits n digits
some-digits n =
    let found = leading_length n n (below-pow n) in
    (found.0, record { below = found.2; above = found.3 })

pub bits-le : (n m : ℕ) → n ≤ m → bits n ≤ bits m
bits-le n m le =
    let one = some-digits n in
    let other = some-digits m in
    omega (arith, bits-is n one.0 one.1, bits-is m other.0 other.1, digits-le n m one.0 other.0 le one.1 other.1)

-- so sorting fewer rows costs no more
pub sort-le : (n m : ℕ) → n ≤ m → sort_work n ≤ sort_work m
sort-le n m le = mul-le n (bits n) m (bits m) le (bits-le n m le)

-- a number below a power of two has no more digits than the exponent
pub digits-within : (n digits most : ℕ) → n < 2 ^ most → HasDigits n digits → digits ≤ most
digits-within n digits most few has =
    let below : digits < most + 1 = lt_of_not-le (λ past.
    let least : 2 ^ (most + 1) ≤ 2 ^ digits = pow-le-pow_right (omega arith) past in
    omega (arith, least, pow_more 2 most, has.above, few)) in
    omega (arith, below)

-- the limit of combinations has 101 digits
pub bits-few : (n : ℕ) → n ≤ 2 ^ 100 → bits n ≤ 101
bits-few n few =
    let found = some-digits n in
    omega (arith, bits-is n found.0 found.1, digits-within n found.0 101 (omega (arith, few)) found.1)
