-- Numbers of 128 bits, the greatest of which stands for every greater one: a product of such numbers stands for the product of those
-- for which they stand.
use Rattle.std.proofs.Common.{◌≡◌, ℕ, zero, suc, ◌*◌, ap, ◌∙◌, arith}
use Rattle.std.proofs.lemmas.Grind.{common_steps}
use Rattle.std.proofs.lemmas.Bool.{cases_lt}
use Rattle.std.proofs.lemmas.Nat.{mul-le}
use Rattle.std.proofs.Math.Nat.{mul_comm}
use Rattle.plan_tree.specs.Work.{capped}

-- a product with a factor that is capped
pub one-capped : (a b : ℕ) → capped (a * capped b) ≡ capped (a * b)
one-capped zero b = omega arith
one-capped (suc a) b = grind (arith, common_steps, mul-le, cases_lt)

pub product-capped : (a b : ℕ) → capped (capped a * capped b) ≡ capped (a * b)
product-capped a b =
    one-capped (capped a) b ∙ ap capped (mul_comm (capped a) b) ∙ one-capped b a ∙ ap capped (mul_comm b a)
