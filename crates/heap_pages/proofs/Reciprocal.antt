-- A quotient as a product with a reciprocal.
use Rattle.std.proofs.Common.{◌≡◌, ℕ, ◌+◌, ◌*◌, ◌/◌, ◌%◌, ◌<◌, ◌≤◌, arith}
use Rattle.std.proofs.Math.Nat.{div-eq_of_lt-le, div-add-mod', mul-le-mul_right, mul-le-mul_left}
use Rattle.std.proofs.lemmas.Nat.{mod_below}

-- the product of a number p * d + s and the reciprocal q + 1 of d, against whole multiples of q * d + r
product_low : (p s q r d : ℕ) → r < d → p * (q * d + r) ≤ (p * d + s) * (q + 1)
product_low p s q r d below =
    let part : p * r ≤ p * d = mul-le-mul_left p (omega arith) in
    grind (arith, part)

product_high : (p s q r d : ℕ) → s < d → p * d + s < q → (p * d + s) * (q + 1) < (p + 1) * (q * d + r)
product_high p s q r d below few =
    let part : (s + 1) * q ≤ d * q = mul-le-mul_right q (omega arith) in
    grind (arith, part)

-- k parts of d, rounded up, serve as the reciprocal of d for numbers below k / d
pub by_reciprocal : (i d k : ℕ) → 1 ≤ d → i < k / d → i * (k / d + 1) / k ≡ i / d
by_reciprocal i d k some few =
    let number = div-add-mod' i d in
    let whole = div-add-mod' k d in
    let few_parts : i / d * d + i % d < k / d = rw number few in
    let low = rw (whole, number) at (product_low (i / d) (i % d) (k / d) (k % d) d (mod_below k d some)) in
    let high = rw (whole, number) at (product_high (i / d) (i % d) (k / d) (k % d) d (mod_below i d some) few_parts) in
    div-eq_of_lt-le k low high
