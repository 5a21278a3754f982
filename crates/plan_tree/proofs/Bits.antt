-- Sets of relations as numbers, and the relations of plans.
use Rattle.std.proofs.Common.{w8, ◌≡◌, ℕ, ◌-◌, ◌*◌, ◌%◌, ◌^◌, ◌<◌, ◌≤◌, ◌&&◌, ◌||◌, Bool, true, false, IsTrue, IsFalse, List, [], ◌∷◌, nat_eq, nat_lt, bit_and, bit_or, cond, refl, sym, ap, ap₂, ◌∙◌, arith}
use Rattle.std.proofs.lemmas.Grind.{common_steps}
use Rattle.std.specs.Prelude.{min}
use Rattle.std.specs.Int.{bit_at, trailing_zeros}
use Rattle.std.specs.List.{list_any}
use Rattle.std.specs.Int.Bits.{or_add_and}
use Rattle.std.proofs.Math.Pow.{pow-lt}
use Rattle.std.proofs.lemmas.Nat.{pow_pos, or_disjoint, and_le_r}
use Rattle.std.proofs.lemmas.Nat.Bits.{bit_at_and, bit_at-zero, bit_at-pow_same, bit_at-pow_other, bit_at-trailing_zeros, and_pow, same_from_bits, bit_at_above, bit_at_ones, bit_at_ones_above}
use Rattle.query_block.specs.declared.edge.Edge.{Edge}
use Rattle.plan_tree.specs.Plans.{PlanTree, Scan, IndexScan, Nest, Hash, Merge, IndexLoop, leaves_of, has_leaf, covers_of}
use Rattle.plan_tree.specs.Enumerated.{AreApart}
use Rattle.plan_tree.proofs.Sets.{bit-of}
use Rattle.plan_tree.specs.Sets.{set_of, is_between}
use Rattle.plan_tree.proofs.LeafSets.{set-of-plan}
use Rattle.plan_tree.specs.Roots.{IsSplit}

-- a plan has a relation exactly where its set has the bit
pub leaf-is-bit : (p : PlanTree) (relation : ℕ) → has_leaf p relation ≡ set_of (covers_of p) relation
leaf-is-bit p relation = ap (λ set. set relation) (sym (set-of-plan p))

-- an edge crosses two plans exactly where it crosses their sets
pub crosses-sets : (edge : Edge) (left right : PlanTree) → is_between (has_leaf left) (has_leaf right) edge ≡ is_between (set_of (covers_of left)) (set_of (covers_of right)) edge
crosses-sets edge left right i =
    (leaf-is-bit left edge.left i && leaf-is-bit right edge.right i) || (leaf-is-bit left edge.right i && leaf-is-bit right edge.left i)

either-some : (a b : ℕ) → 1 ≤ a → 1 ≤ bit_or a b
either-some a b some = omega (arith, or_add_and a b, and_le_r a b)

-- no plan's set is empty
pub covers-some : (p : PlanTree) → 1 ≤ covers_of p
covers-some (Scan r) = omega (arith, pow_pos r)
covers-some (IndexScan r c) = omega (arith, pow_pos r)
covers-some (Nest l r) = either-some (covers_of l) (covers_of r) (covers-some l)
covers-some (Hash e l r) = either-some (covers_of l) (covers_of r) (covers-some l)
covers-some (Merge e l r) = either-some (covers_of l) (covers_of r) (covers-some l)
covers-some (IndexLoop e l r) = either-some (covers_of l) (2 ^ r) (covers-some l)

-- ---- plans and sets that are apart

none-there : (f : ℕ → Bool) (xs : List ℕ) (i : ℕ) → list_any f xs ≡ false → list_any (nat_eq i) xs ≡ true → f i ≡ false
none-there f [] i none some = cc
none-there f (x ∷ xs) i none some = grind (arith, common_steps, nat_eq, none-there f xs i)

none-of : (f : ℕ → Bool) (xs : List ℕ) → ((i : ℕ) → list_any (nat_eq i) xs ≡ true → f i ≡ false) → list_any f xs ≡ false
none-of f [] none = refl
none-of f (x ∷ xs) none =
    let here : f x ≡ false = none x (grind arith) in
    let there : list_any f xs ≡ false = none-of f xs (λ i some. none i (later i (nat_eq i x) some)) in
    λ i. here i || there i
  where
    later : (i : ℕ) (b : Bool) → list_any (nat_eq i) xs ≡ true → (b || list_any (nat_eq i) xs) ≡ true
    later i true some = refl
    later i false some = some

one-bit : (a b : Bool) → (a ≡ true → b ≡ false) → min (cond a 1 0) (cond b 1 0) ≡ 0
one-bit true true other = let e = other refl in cc
one-bit true false other = refl
one-bit false true other = refl
one-bit false false other = refl

no-bit : (a b : Bool) → min (cond a 1 0) (cond b 1 0) ≡ 0 → a ≡ true → b ≡ false
no-bit true true none e = absurd (omega (arith, none))
no-bit true false none e = refl
no-bit false b none e = cc

pub apart-sets : (left right : PlanTree) → AreApart left right → bit_and (covers_of left) (covers_of right) ≡ 0
apart-sets left right apart = same_from_bits _ 0 (λ i.
    bit_at_and (covers_of left) (covers_of right) i ∙ ap₂ min (bit-of left i) (bit-of right i)
    ∙ one-bit (has_leaf left i) (has_leaf right i) (none-there (has_leaf right) (leaves_of left) i apart)
    ∙ sym (bit_at-zero i))

pub sets-apart : (left right : PlanTree) → bit_and (covers_of left) (covers_of right) ≡ 0 → AreApart left right
sets-apart left right none = none-of (has_leaf right) (leaves_of left) (λ i.
    no-bit (has_leaf left i) (has_leaf right i)
    (sym (bit_at_and (covers_of left) (covers_of right) i ∙ ap₂ min (bit-of left i) (bit-of right i)) ∙ ap (λ n. bit_at n i) none ∙ bit_at-zero i))

pub apart-relation : (left : PlanTree) (relation : ℕ) → IsFalse (has_leaf left relation) → bit_and (covers_of left) (2 ^ relation) ≡ 0
apart-relation left relation apart =
    and_pow (covers_of left) relation ∙ ap (λ n. n * 2 ^ relation) (bit-of left relation ∙ ap (λ b. cond b 1 0) apart) ∙ omega arith

pub relation-apart : (left : PlanTree) (relation : ℕ) → bit_and (covers_of left) (2 ^ relation) ≡ 0 → IsFalse (has_leaf left relation)
relation-apart left relation none = grind (arith, common_steps, bit-of, bit_and, and_pow, pow_pos)

-- ---- the two sides of a set

pub sum-of-sides : (a b : ℕ) → bit_and a b ≡ 0 → bit_or a b - a ≡ b
sum-of-sides a b apart = omega (arith, or_disjoint a b apart)

pub split-of : (a b : ℕ) → 1 ≤ a → 1 ≤ b → bit_and a b ≡ 0 → IsSplit a (bit_or a b)
split-of a b some some' apart = grind (arith, common_steps, or_disjoint, bit_and, sum-of-sides)

pub whole-of : (left set right : ℕ) → IsSplit left set → right ≡ set - left → bit_or left right ≡ set
whole-of left set right split is =
    ap (bit_or left) is ∙ or_disjoint left (set - left) split.apart ∙ omega (arith, split.less)

pub same-relation : (a b : ℕ) → 2 ^ a ≡ 2 ^ b → a ≡ b
same-relation a b same = by (nat_eq a b) refl
  where
    by : (t : Bool) → nat_eq a b ≡ t → a ≡ b
    by true e = grind arith
    by false e =
        let one : 1 ≡ 0 = sym (bit_at-pow_same a) ∙ ap (λ n. bit_at n a) same ∙ bit_at-pow_other b a (λ is. grind arith) in
        absurd (omega (arith, one))

-- the set of one relation has no other
pub relation-alone : (relation other : ℕ) → set_of (2 ^ relation) other ≡ true → other ≡ relation
relation-alone relation other is = grind (arith, common_steps, nat_eq, leaf-is-bit)

one-place : (right relation : ℕ) → right ≡ 2 ^ relation → right < 256 → trailing_zeros w8 right ≡ relation
one-place right relation is small = by (nat_eq (trailing_zeros w8 right) relation) refl
  where
    by : (t : Bool) → nat_eq (trailing_zeros w8 right) relation ≡ t → trailing_zeros w8 right ≡ relation
    by true e = grind arith
    by false e =
        let place = bit_at-trailing_zeros w8 right (omega (arith, is, pow_pos relation)) small in
        let one : 1 ≡ 0 = sym place.1 ∙ ap (λ n. bit_at n (trailing_zeros w8 right)) is ∙ bit_at-pow_other relation (trailing_zeros w8 right) (λ same. grind arith) in
        absurd (omega (arith, one))

-- a set of one relation is that of its lowest bit
pub lowest-alone : (right relation : ℕ) → right ≡ 2 ^ relation → right < 256 → right ≡ 1 * 2 ^ trailing_zeros w8 right % 256
lowest-alone right relation is small = grind (arith, common_steps, one-place)

pub power-below : (relation end : ℕ) → relation < end → 2 ^ relation < 2 ^ end
power-below relation end below = pow-lt below

-- ---- the set of all relations

all-bits : (p : PlanTree) (count : ℕ) → covers_of p < 2 ^ count → ((relation : ℕ) → relation < count → IsTrue (has_leaf p relation)) → (i : ℕ) (b : Bool) → nat_lt i count ≡ b
    → bit_at (covers_of p) i ≡ bit_at (2 ^ count - 1) i
all-bits p count below all i true is = grind (arith, common_steps, bit-of, bit_at_ones)
all-bits p count below all i false is = grind (arith, common_steps, bit_at_above, bit_at_ones_above)

-- a plan of all relations has all bits
pub covers-all : (p : PlanTree) (count : ℕ) → covers_of p < 2 ^ count → ((relation : ℕ) → relation < count → IsTrue (has_leaf p relation)) → covers_of p ≡ 2 ^ count - 1
covers-all p count below all = same_from_bits _ _ (λ i. all-bits p count below all i (nat_lt i count) refl)

pub all-covered : (p : PlanTree) (count : ℕ) → covers_of p ≡ 2 ^ count - 1 → (relation : ℕ) → relation < count → IsTrue (has_leaf p relation)
all-covered p count is relation below = by (has_leaf p relation) _ (bit-of p relation) (ap (λ n. bit_at n relation) is ∙ bit_at_ones count relation below)
  where
    by : (b : Bool) (n : ℕ) → n ≡ cond b 1 0 → n ≡ 1 → IsTrue b
    by true n e one = refl
    by false n e one = absurd (omega (arith, e, one))
