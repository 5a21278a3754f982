-- Quotients that are rounded up.
use Rattle.std.proofs.Common.{◌≡◌, ℕ, zero, suc, ◌+◌, ◌-◌, ◌*◌, ◌/◌, ◌%◌, ◌^◌, ◌<◌, ◌≤◌, min, Bool, true, false, leb, refl, ap, sym, ◌∙◌, arith}
use Rattle.std.proofs.Math.Nat.{div-mul-le_self, lt-mul-div-succ, mul_comm, mul_assoc, add-mul, lt_of_mul-lt-mul_right, mul-le-mul_left, mul-le-mul_right}
use Rattle.std.proofs.lemmas.Nat.{mul-le, pow_pos}
use Rattle.std.proofs.lemmas.Bool.{leb-true, leb-false}
use Rattle.std.proofs.lemmas.Grind.{div_ceil_times}
use Rattle.std.specs.Int.{div_ceil}
use Rattle.sql_values.specs.Limits.{max_product}
use Rattle.ess_grid.specs.Levels.{full_selectivity}
use Rattle.cost_model.specs.AtPoint.{scaled}
use Rattle.cost_model.proofs.Sets.{power-to}

-- a number that lies where a quotient that is rounded up does
abbrev pub IsCeiling : (n by up : ℕ) → Type 0
IsCeiling n by up = (n ≤ up * by) × (up * by < n + by)

pub ceiling : (n by : ℕ) → 0 < by → IsCeiling n by (div_ceil n by)
ceiling n by some = div_ceil_times n by some

one-more : (up by : ℕ) → (up + 1) * by ≡ up * by + by
one-more up by = omega (arith, add-mul up 1 by)

-- the greater number has the greater quotient
pub ceiling-le : (n m by up other : ℕ) → n ≤ m → IsCeiling n by up → IsCeiling m by other → up ≤ other
ceiling-le n m by up other le is is' =
    let below : up * by < (other + 1) * by = omega (arith, le, is.1, is'.0, one-more other by) in
    omega (arith, lt_of_mul-lt-mul_right by below)

-- so there is only one such number
pub ceiling-one : (n by up other : ℕ) → IsCeiling n by up → IsCeiling n by other → up ≡ other
ceiling-one n by up other is is' =
    omega (arith, ceiling-le n n by up other (omega arith) is is', ceiling-le n n by other up (omega arith) is' is)

pub div_ceil-le : (n m by : ℕ) → 0 < by → n ≤ m → div_ceil n by ≤ div_ceil m by
div_ceil-le n m by some le = ceiling-le n m by _ _ le (ceiling n by some) (ceiling m by some)

-- rounded up twice is rounded up once
pub twice : (n by also up top : ℕ) → IsCeiling n by up → IsCeiling up also top → IsCeiling n (by * also) top
twice n by also up top is is' =
    let whole : top * (by * also) ≡ top * also * by = ap (λ n. top * n) (mul_comm by also) ∙ sym (mul_assoc top also by) in
    let parts : by * also ≡ also * by = mul_comm by also in
    let low : up * by ≤ top * also * by = mul-le-mul_right by is'.0 in
    let high : (top * also + 1) * by ≤ (up + also) * by = mul-le-mul_right by (omega (arith, is'.1)) in
    let left : (top * also + 1) * by ≡ top * also * by + by = one-more (top * also) by in
    let right : (up + also) * by ≡ up * by + also * by = add-mul up also by in
    (omega (arith, is.0, low, whole), omega (arith, is.1, high, left, right, whole, parts))

-- a selectivity that is the whole, halved so often, halves as often
pub halved : (rows selectivity halvings : ℕ) → selectivity * 2 ^ halvings ≡ full_selectivity → 0 < selectivity → scaled rows selectivity ≡ div_ceil rows (2 ^ halvings)
halved rows selectivity halvings is some =
    let by = 2 ^ halvings in
    let up = div_ceil rows by in
    let at : IsCeiling rows by up = ceiling rows by (pow_pos halvings) in
    let low : rows * selectivity ≤ up * by * selectivity = mul-le-mul_right selectivity at.0 in
    let high : (up * by + 1) * selectivity ≤ (rows + by) * selectivity = mul-le-mul_right selectivity (omega (arith, at.1)) in
    let whole : up * full_selectivity ≡ up * by * selectivity = ap (λ n. up * n) (sym is ∙ mul_comm selectivity by) ∙ sym (mul_assoc up by selectivity) in
    let left : (up * by + 1) * selectivity ≡ up * by * selectivity + selectivity = one-more (up * by) selectivity in
    let right : (rows + by) * selectivity ≡ rows * selectivity + by * selectivity = add-mul rows by selectivity in
    let parts : by * selectivity ≡ full_selectivity = mul_comm by selectivity ∙ is in
    ceiling-one (rows * selectivity) full_selectivity _ up (ceiling (rows * selectivity) full_selectivity (omega arith))
    (omega (arith, low, whole), omega (arith, high, left, right, whole, parts, some))

-- a part of rows is at most all of them
pub scaled-few : (rows selectivity : ℕ) → selectivity ≤ full_selectivity → scaled rows selectivity ≤ rows
scaled-few rows selectivity part =
    let at : IsCeiling (rows * selectivity) full_selectivity (scaled rows selectivity) = ceiling (rows * selectivity) full_selectivity (omega arith) in
    let most : rows * selectivity ≤ rows * full_selectivity = mul-le-mul_left rows part in
    let below : scaled rows selectivity * full_selectivity < (rows + 1) * full_selectivity = omega (arith, at.1, most, one-more rows full_selectivity) in
    omega (arith, lt_of_mul-lt-mul_right full_selectivity below)

-- more of more is more
pub scaled-le : (rows more selectivity greater : ℕ) → rows ≤ more → selectivity ≤ greater → scaled rows selectivity ≤ scaled more greater
scaled-le rows more selectivity greater le part =
    let most : rows * selectivity ≤ more * greater = mul-le rows selectivity more greater le part in
    div_ceil-le _ _ full_selectivity (omega arith) most

-- what is added before a number is halved by a shift
pub shifted-up : (rows by : ℕ) → 0 < by → (rows + (by - 1)) / by ≡ div_ceil rows by
shifted-up rows by some =
    let sum = rows + (by - 1) in
    let up = sum / by in
    let low : up * by ≤ sum = div-mul-le_self sum by in
    let high : sum < by * (up + 1) = lt-mul-div-succ sum some in
    let next : by * (up + 1) ≡ up * by + by = mul_comm by (up + 1) ∙ one-more up by in
    ceiling-one rows by up (div_ceil rows by) (omega (arith, high, next, some), omega (arith, low, some)) (ceiling rows by some)

-- a number that is at most a quotient's divisor
few-times : (rows by : ℕ) → 0 < by → rows ≤ by → div_ceil rows by ≡ min 1 rows
few-times rows by some few =
    let one = min 1 rows in
    ceiling-one rows by (div_ceil rows by) one (ceiling rows by some) (by-rows rows few)
  where
    by-rows : (rows : ℕ) → rows ≤ by → IsCeiling rows by (min 1 rows)
    by-rows zero few = (omega arith, omega (arith, some))
    by-rows (suc n) few =
        let least : min 1 (suc n) ≡ 1 = omega arith in
        let same : min 1 (suc n) * by ≡ 1 * by = ap (λ one. one * by) least in
        (omega (arith, few, same), omega (arith, same))

-- a number within the limit of combinations is halved no further after 100 times
pub halved-up : (rows halvings times : ℕ) → rows ≤ max_product → times ≡ min halvings 100 → (rows + (2 ^ times - 1)) / 2 ^ times ≡ div_ceil rows (2 ^ halvings)
halved-up rows halvings times few is = shifted-up rows (2 ^ times) (pow_pos times) ∙ by-order (leb halvings 100) refl
  where
    by-order : (b : Bool) → leb halvings 100 ≡ b → div_ceil rows (2 ^ times) ≡ div_ceil rows (2 ^ halvings)
    by-order true le = ap (λ k. div_ceil rows (2 ^ k)) (omega (arith, is, leb-true halvings 100 le))
    by-order false le =
        let more : 100 ≤ halvings = omega (arith, leb-false halvings 100 le) in
        let all : times ≡ 100 = omega (arith, is, more) in
        let least : 2 ^ 100 ≤ 2 ^ halvings = power-to 100 halvings more in
        ap (λ k. div_ceil rows (2 ^ k)) all ∙ few-times rows (2 ^ 100) (pow_pos 100) few ∙ sym (few-times rows (2 ^ halvings) (pow_pos halvings) (omega (arith, few, least)))

-- nor does the divisor pass 128 bits
pub divisor-fits : (halvings times : ℕ) → times ≡ min halvings 100 → (1 * 2 ^ times % 340282366920938463463374607431768211456 ≡ 2 ^ times) × (2 ^ times ≤ 2 ^ 100)
divisor-fits halvings times is =
    let le : 2 ^ times ≤ 2 ^ 100 = power-to times 100 (omega (arith, is)) in (omega (arith, le), le)
