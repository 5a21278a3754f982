-- Bounds on the pairs of rows of two sides.
use Rattle.std.proofs.Common.{◌≡◌, ◌≢◌, ◌⊎◌, inl, inr, ℕ, ◌*◌, ◌^◌, ◌<◌, ◌≤◌, ◌&&◌, not, Bool, true, false, IsFalse, List, length, bit_and, nat_eq, refl, sym, ap, ap₂, ◌∙◌, arith}
use Rattle.std.specs.Prelude.{min}
use Rattle.std.specs.Int.{bit_at}
use Rattle.std.proofs.Math.ListN.{length-map}
use Rattle.std.proofs.lemmas.Nat.Bits.{bit_at_and, bit_at-zero, and_pow}
use Rattle.sql_values.specs.Limits.{max_product}
use Rattle.query_block.specs.Blocks.{relation_tree}
use Rattle.cost_model.specs.Costing.{CostingShape, costing_tree, IsCosting}
use Rattle.plan_tree.specs.Sets.{set_of}
use Rattle.cost_model.specs.AtPoint.{stats_at}
use Rattle.cost_model.specs.Costs.{relation_stats}
use Rattle.cost_model.proofs.Bounds.{pairs-below, loop-pairs-below}
use Rattle.cost_model.specs.Prices.{set_card}

no-bit : (set relation bit product : ℕ) → product ≡ bit * 2 ^ relation → bit ≡ 0 → product ≡ 0
no-bit set relation bit product is none = is ∙ ap (λ b. b * 2 ^ relation) none ∙ omega arith

out-of : (n : ℕ) → n ≡ 0 → not (nat_eq n 0) ≡ false
out-of n none = ap (λ m. not (nat_eq m 0)) none

-- of two bits whose least is 0 one is 0
one-none : (a b : ℕ) → min a b ≡ 0 → (a ≡ 0) ⊎ (b ≡ 0)
one-none a b none = by (nat_eq a 0) refl
  where
    by : (t : Bool) → nat_eq a 0 ≡ t → (a ≡ 0) ⊎ (b ≡ 0)
    by true is = inl (grind arith)
    by false is = inr (let some : a ≢ 0 = grind arith in omega (arith, none, some))

left-false : (a b : Bool) → a ≡ false → (a && b) ≡ false
left-false a b none = ap (λ t. t && b) none

right-false : (a b : Bool) → b ≡ false → (a && b) ≡ false
right-false true b none = none
right-false false b none = refl

apart-numbers : (left right : ℕ) → bit_and left right ≡ 0 → (relation : ℕ) → IsFalse (set_of left relation && set_of right relation)
apart-numbers left right apart relation =
    let none : min (bit_at left relation) (bit_at right relation) ≡ 0 =
    sym (bit_at_and left right relation) ∙ ap (λ n. bit_at n relation) apart ∙ bit_at-zero relation in
    elim (one-none (bit_at left relation) (bit_at right relation) none) [
      | inl one ↦ left-false (set_of left relation) (set_of right relation) (out-of _ (no-bit left relation _ _ (and_pow left relation) one))
      | inr one ↦ right-false (set_of left relation) (set_of right relation) (out-of _ (no-bit right relation _ _ (and_pow right relation) one))
    ]

pub set-pairs-few : (costing : CostingShape) (point : List ℕ) (left right a b : ℕ) → IsCosting (costing_tree costing) → bit_and left right ≡ 0
    → a ≡ set_card (costing_tree costing) point left → b ≡ set_card (costing_tree costing) point right → a * b ≤ max_product
set-pairs-few costing point left right a b is apart one other =
    let same = ap₂ (λ x y. x * y) one other in
    let few = pairs-below (costing_tree costing) (set_of left) (set_of right) point is (apart-numbers left right apart) in
    omega (arith, same, few)

pub loop-pairs-few : (costing : CostingShape) (point : List ℕ) (left relation a rows : ℕ) → IsCosting (costing_tree costing) → bit_and left (2 ^ relation) ≡ 0
    → relation < length costing.block.relations → a ≡ set_card (costing_tree costing) point left → rows ≡ (relation_stats (stats_at (costing_tree costing) point) relation).rows → a * rows ≤ max_product
loop-pairs-few costing point left relation a rows is apart below one other =
    let same = ap₂ (λ x y. x * y) one other in
    let few = loop-pairs-below (costing_tree costing) (set_of left) relation point is (out-of _ apart)
    (omega (arith, below, length-map costing.block.relations relation_tree)) in
    omega (arith, same, few)
