-- Sets of relations: as numbers, and as the leaves of plans; and how many relations are in a set.
use Rattle.std.proofs.Common.{◌≡◌, ◌↔◌, ℕ, zero, suc, cond, ◌+◌, ◌≤◌, ◌^◌, ◌<◌, Bool, true, false, ◌&&◌, ◌||◌, not, List, [], ◌∷◌, ◌++◌, IsTrue, bit_and, nat_eq, refl, ap, ◌∙◌, inl, inr, arith}
use Rattle.std.proofs.lemmas.Grind.{common_steps}
use Rattle.std.proofs.Math.Path.{fun_ext}
use Rattle.std.proofs.lemmas.Bool.{cases_eq}
use Rattle.std.proofs.lemmas.Bool.Decides.{nat_tests}
use Rattle.std.specs.List.{list_any}
use Rattle.std.proofs.lemmas.List.Folds.{list_any-append}
use Rattle.query_block.specs.Meaning.{RelationSet}
use Rattle.plan_tree.specs.Plans.{PlanTree, Scan, leaves_of, has_leaf, covers_of}
use Rattle.plan_tree.specs.Enumerated.{AreApart}
use Rattle.plan_tree.proofs.Sets.{bits-are-leaves}
use Rattle.plan_tree.specs.Sets.{set_of}

-- a test of a number against 0
is-some : (b : Bool) (n : ℕ) → ((n ≡ 0 → ⊥) ↔ IsTrue b) → not (nat_eq n 0) ≡ b
is-some true n iff = grind (arith, nat_tests, iff.1 refl)
is-some false n iff =
    elim (cases_eq n 0) [ inl none ↦ grind (arith, nat_tests, none) | inr some ↦ absurd (grind (arith, iff.0 some)) ]

-- the number of a plan's set stands for its leaves
pub set-of-plan : (p : PlanTree) → set_of (covers_of p) ≡ has_leaf p
set-of-plan p = fun_ext (λ relation. is-some (has_leaf p relation) (bit_and (covers_of p) (2 ^ relation)) (bits-are-leaves p relation))

-- a join has the leaves of both sides
pub leaf-of-both : (left right : List ℕ) (relation : ℕ) → list_any (nat_eq relation) (left ++ right) ≡ (list_any (nat_eq relation) left || list_any (nat_eq relation) right)
leaf-of-both left right relation = list_any-append (nat_eq relation) left right

-- plans that are apart have no relation in common
none-among : (test : ℕ → Bool) (leaves : List ℕ) (relation : ℕ) → list_any test leaves ≡ false → (list_any (nat_eq relation) leaves && test relation) ≡ false
none-among test [] relation none = refl
none-among test (leaf ∷ leaves) relation none =
    let rest = none-among test leaves relation (grind (arith, none)) in
    let here : test leaf ≡ false = grind (arith, none) in
    elim (cases_eq relation leaf) [ inl same ↦ grind (arith, ap test same ∙ here) | inr other ↦ grind (arith, nat_tests, other, rest) ]

pub apart-sets : (left right : PlanTree) → AreApart left right → (relation : ℕ) → (has_leaf left relation && has_leaf right relation) ≡ false
apart-sets left right apart relation = none-among (has_leaf right) (leaves_of left) relation apart

-- how many of the next `more` relations from this one on are in a set
abbrev pub size_of : RelationSet → (number more : ℕ) → ℕ
size_of set number zero = 0
size_of set number (suc more) = cond (set number) 1 0 + size_of set (number + 1) more

one-at-most : (b : Bool) → cond b 1 0 ≤ 1
one-at-most true = omega arith
one-at-most false = omega arith

pub size-few : (set : RelationSet) (number more : ℕ) → size_of set number more ≤ more
size-few set number zero = omega arith
size-few set number (suc more) = omega (arith, one-at-most (set number), size-few set (number + 1) more)

of-both : (a b c : Bool) → (a && b) ≡ false → c ≡ (a || b) → cond c 1 0 ≡ cond a 1 0 + cond b 1 0
of-both true true c apart is = absurd (grind (arith, apart))
of-both true false c apart is = rw is refl
of-both false true c apart is = rw is refl
of-both false false c apart is = rw is refl

pub size-of-both : (set other both : RelationSet) (number more : ℕ) → ((relation : ℕ) → (set relation && other relation) ≡ false) → ((relation : ℕ) → both relation ≡ (set relation || other relation))
    → size_of both number more ≡ size_of set number more + size_of other number more
size-of-both set other both number zero apart is = refl
size-of-both set other both number (suc more) apart is =
    omega (arith, of-both (set number) (other number) (both number) (apart number) (is number), size-of-both set other both (number + 1) more apart is)

one-here : (b : Bool) → b ≡ true → 1 ≤ cond b 1 0
one-here true is = omega arith
one-here false is = absurd (grind (arith, is))

pub size-some : (set : RelationSet) (number place more : ℕ) → set (number + place) ≡ true → place < more → 1 ≤ size_of set number more
size-some set number place zero there below = absurd (omega (arith, below))
size-some set number zero (suc more) there below = grind (arith, common_steps, one-here)
size-some set number (suc place) (suc more) there below =
    omega (arith, size-some set (number + 1) place more (ap set (omega arith) ∙ there) (omega (arith, below)))

-- a leaf is one relation, and a join has those of both sides
pub leaf-size : (many relation : ℕ) → relation < many → 1 ≤ size_of (has_leaf (Scan relation)) 0 many
leaf-size many relation below = size-some (has_leaf (Scan relation)) 0 relation many (grind (arith, nat_tests)) below

pub both-sizes : (many : ℕ) (left right : List ℕ) → ((relation : ℕ) → (list_any (nat_eq relation) left && list_any (nat_eq relation) right) ≡ false)
    → size_of (λ relation. list_any (nat_eq relation) (left ++ right)) 0 many
    ≡ size_of (λ relation. list_any (nat_eq relation) left) 0 many + size_of (λ relation. list_any (nat_eq relation) right) 0 many
both-sizes many left right apart = grind (arith, common_steps, size-of-both, nat_eq, leaf-of-both)

pub alone : (left : PlanTree) (relation : ℕ) → has_leaf left relation ≡ false → (other : ℕ) → (has_leaf left other && has_leaf (Scan relation) other) ≡ false
alone left relation out other =
    elim (cases_eq other relation) [ inl same ↦ rw same (grind (arith, out)) | inr apart ↦ grind (arith, nat_tests, apart) ]
