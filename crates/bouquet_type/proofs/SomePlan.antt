-- Every block has a plan: nested loops over scans of its relations in order.
use Rattle.std.proofs.Common.{◌≡◌, ◌∙◌, ℕ, zero, suc, ◌-◌, ◌<◌, ◌≤◌, [], ◌∷◌, length, inl, inr, refl, arith}
use Rattle.std.specs.Prelude.{Bool, true, false}
use Rattle.std.specs.List.{list_any}
use Rattle.std.proofs.lemmas.Bool.{cases_lt}
use Rattle.std.proofs.lemmas.Bool.Decides.{nat_tests}
use Rattle.std.proofs.lemmas.List.Folds.{list_any-append}
use Rattle.query_block.specs.Blocks.{BlockTree, IsBlock}
use Rattle.plan_tree.specs.Plans.{PlanTree, Scan, Nest, leaves_of, has_leaf}
use Rattle.plan_tree.specs.Enumerated.{AreApart, IsSubPlan, IsPlan}
use Rattle.plan_tree.proofs.LeafSets.{leaf-of-both}

-- the scans of the relations up to this one, joined
abbrev scans : ℕ → PlanTree
scans zero = Scan 0
scans (suc relation) = Nest (scans relation) (Scan (suc relation))

list-none : (test : ℕ → Bool) (relation : ℕ) → ((leaf : ℕ) → leaf ≤ relation → test leaf ≡ false) → list_any test (leaves_of (scans relation)) ≡ false
list-none test zero none = grind (arith, none 0 (omega arith))
list-none test (suc relation) none =
    let before = list-none test relation (λ leaf low. none leaf (omega (arith, low))) in
    let here = none (suc relation) (omega arith) in
    list_any-append test (leaves_of (scans relation)) (suc relation ∷ []) ∙ grind (arith, before, here)

scans-apart : (relation : ℕ) → AreApart (scans relation) (Scan (suc relation))
scans-apart relation = list-none (has_leaf (Scan (suc relation))) relation (λ leaf low. grind (arith, nat_tests, low))

scans-plan : (block : BlockTree) (relation : ℕ) → relation < length block.relations → IsSubPlan block (scans relation)
scans-plan block zero below = below
scans-plan block (suc relation) below = (scans-plan block relation (omega (arith, below)), below, scans-apart relation)

scans-whole : (relation leaf : ℕ) → leaf ≤ relation → has_leaf (scans relation) leaf ≡ true
scans-whole zero leaf low = grind (arith, nat_tests, low)
scans-whole (suc relation) leaf low =
    leaf-of-both (leaves_of (scans relation)) (leaves_of (Scan (suc relation))) leaf
    ∙ elim (cases_lt relation leaf) [
      | inl above ↦ grind (arith, nat_tests, above, low)
      | inr below ↦ rw (scans-whole relation leaf below) refl
    ]

pub some-plan : (block : BlockTree) → IsBlock block → (p : PlanTree) × IsPlan block p
some-plan block is =
    let last = length block.relations - 1 in (
      scans last,
      record { nodes = scans-plan block last (omega (arith, is.some)); whole = λ leaf below. scans-whole last leaf (omega (arith, below)) },
    )
