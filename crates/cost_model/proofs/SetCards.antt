-- The cards of all sets, by the products of smaller sets, and by how often these are halved for one edge after another.
use Rattle.std.proofs.Common.{◌≡◌, ◌≢◌, ℕ, zero, suc, ◌+◌, ◌*◌, ◌^◌, ◌<◌, ◌≤◌, max, cond, not, Bool, true, false, List, [], ◌∷◌, length, drop, get_or, get_or-set_other, get_or-set_same, below_more, nat_eq, refl, sym, ap, ◌∙◌, arith}
use Rattle.std.specs.Prelude.{slice_index, slice_set}
use Rattle.std.specs.Int.{bit_at, div_ceil}
use Rattle.std.proofs.Math.Nat.{mul_comm, mul_assoc}
use Rattle.std.proofs.Math.ListN.{length-map, length-set}
use Rattle.std.proofs.lemmas.Nat.{pow_pos, or_disjoint}
use Rattle.std.proofs.lemmas.Nat.Bits.{and_pow, bit_at_or, bit_at_above, bit_at-pow_same, bit_at-pow_other}
use Rattle.std.proofs.lemmas.List.{at_drop_more, drop_all}
use Rattle.sql_values.specs.Limits.{max_product}
use Rattle.ess_grid.specs.Levels.{halvings_of, selectivity_bits}
use Rattle.query_block.specs.declared.edge.Edge.{Edge}
use Rattle.query_block.specs.Blocks.{relation_tree}
use Rattle.query_block.specs.Meaning.{RelationSet, is_inside}
use Rattle.plan_tree.specs.Enumerated.{edge_at}
use Rattle.plan_tree.specs.Sets.{set_of}
use Rattle.cost_model.specs.declared.stats.RelationStats.{RelationStats}
use Rattle.cost_model.specs.Costing.{CostingShape, CostingTree, costing_tree, IsCosting}
use Rattle.cost_model.specs.AtPoint.{stats_at}
use Rattle.cost_model.specs.Cards.{kept_product}
use Rattle.cost_model.specs.Rounding.{halvings_inside}
use Rattle.cost_model.proofs.Cards.{card-once}
use Rattle.cost_model.specs.Costs.{relation_stats}
use Rattle.cost_model.proofs.Bounds.{one-times, product-few, stats-at-long}
use Rattle.cost_model.specs.Pricing.{Pricing}
use Rattle.cost_model.specs.Prices.{IsSetOf, block_at, set_card}
use Rattle.cost_model.specs.SetCards.{AreProducts, IsHalved, AreHalvings}
use Rattle.cost_model.proofs.Sets.{low-apart, power-to, sets-below}

-- ---- numbers of sets

-- the arrays have room for all sets of a block
pub set-small : (costing : CostingTree) (set : ℕ) → IsCosting costing → IsSetOf costing.block set → set < 64
set-small costing set is below =
    let few : 2 ^ length costing.block.relations ≤ 2 ^ 6 = power-to (length costing.block.relations) 6 is.block.few in
    omega (arith, below, few)

pub by-bit : (set relation bit : ℕ) → bit_at set relation ≡ bit → set_of set relation ≡ not (nat_eq (bit * 2 ^ relation) 0)
by-bit set relation bit is = ap (λ n. not (nat_eq n 0)) (and_pow set relation ∙ ap (λ b. b * 2 ^ relation) is)

some-true : (n : ℕ) → 1 ≤ n → not (nat_eq n 0) ≡ true
some-true n some = by (nat_eq n 0) refl
  where
    by : (t : Bool) → nat_eq n 0 ≡ t → not (nat_eq n 0) ≡ true
    by true is = let none : n ≡ 0 = grind arith in absurd (omega (arith, some, none))
    by false is = ap not is

with-highest : (relation rest one : ℕ) → rest < 2 ^ relation → bit_at (2 ^ relation + rest) one ≡ max (bit_at (2 ^ relation) one) (bit_at rest one)
with-highest relation rest one less =
    ap (λ n. bit_at n one) (sym (or_disjoint (2 ^ relation) rest (low-apart relation rest less))) ∙ bit_at_or (2 ^ relation) rest one

-- a highest relation more leaves the others as they are
others-stay : (relation rest : ℕ) → rest < 2 ^ relation → (one : ℕ) → one ≢ relation → set_of (2 ^ relation + rest) one ≡ set_of rest one
others-stay relation rest less one other =
    let bit : bit_at (2 ^ relation + rest) one ≡ bit_at rest one = omega (arith, with-highest relation rest one less, bit_at-pow_other relation one other) in
    by-bit (2 ^ relation + rest) one (bit_at rest one) bit ∙ sym (by-bit rest one (bit_at rest one) refl)

highest-in : (relation rest : ℕ) → rest < 2 ^ relation → set_of (2 ^ relation + rest) relation ≡ true
highest-in relation rest less =
    let none = bit_at_above rest relation relation less (omega arith) in
    let bit : bit_at (2 ^ relation + rest) relation ≡ 1 = omega (arith, with-highest relation rest relation less, bit_at-pow_same relation, none) in
    by-bit (2 ^ relation + rest) relation 1 bit ∙ some-true (1 * 2 ^ relation) (omega (arith, pow_pos relation))

highest-out : (relation rest : ℕ) → rest < 2 ^ relation → set_of rest relation ≡ false
highest-out relation rest less =
    let none : 0 * 2 ^ relation ≡ 0 = omega arith in
    by-bit rest relation 0 (bit_at_above rest relation relation less (omega arith)) ∙ ap (λ n. not (nat_eq n 0)) none

-- ---- products

swapped : (a b c : ℕ) → a * (b * c) ≡ b * (a * c)
swapped a b c = sym (mul_assoc a b c) ∙ ap (λ n. n * c) (mul_comm a b) ∙ mul_assoc b a c

-- two sets that differ in one relation
module _ (set other : RelationSet) (relation : ℕ) (others : (one : ℕ) → one ≢ relation → other one ≡ set one) where
  kept-after : (number : ℕ) (stats : List RelationStats) → relation < number → kept_product set number stats ≡ kept_product other number stats
  kept-after number [] after = refl
  kept-after number (one ∷ more) after =
      let here : other number ≡ set number = others number (λ is. omega (arith, is, after)) in
      let rest = kept-after (number + 1) more (omega (arith, after)) in
      λ i. cond (sym here i) one.kept 1 * rest i

  kept-more : set relation ≡ false → other relation ≡ true → (number place : ℕ) (stats : List RelationStats) (none : RelationStats) → number + place ≡ relation → place < length stats
      → (get_or stats place none).kept * kept_product set number stats ≡ kept_product other number stats
  kept-more out in_other number place [] none at below = absurd (omega (arith, below))
  kept-more out in_other number zero (one ∷ more) none at below =
      let same : number ≡ relation = omega (arith, at) in
      let rest = kept_product set (number + 1) more in
      ap (λ b. one.kept * (cond b one.kept 1 * rest)) (ap set same ∙ out)
      ∙ ap (λ n. one.kept * n) (one-times rest ∙ kept-after (number + 1) more (omega (arith, at)))
      ∙ ap (λ b. cond b one.kept 1 * kept_product other (number + 1) more) (sym (ap other same ∙ in_other))
  kept-more out in_other number (suc place) (one ∷ more) none at below =
      let here : other number ≡ set number = others number (λ is. omega (arith, is, at)) in
      swapped (get_or more place none).kept (cond (set number) one.kept 1) (kept_product set (number + 1) more)
      ∙ ap (λ n. cond (set number) one.kept 1 * n) (kept-more out in_other (number + 1) place more none (omega (arith, at)) (omega (arith, below)))
      ∙ ap (λ b. cond b one.kept 1 * kept_product other (number + 1) more) (sym here)

no-kept : (set : RelationSet) → ((relation : ℕ) → set relation ≡ false) → (number : ℕ) (stats : List RelationStats) → kept_product set number stats ≡ 1
no-kept set none number [] = refl
no-kept set none number (one ∷ more) =
    ap (λ b. cond b one.kept 1 * kept_product set (number + 1) more) (none number) ∙ one-times _ ∙ no-kept set none (number + 1) more

-- the counts at a point of a costing
abbrev kept_at : Pricing → List RelationStats
kept_at at = (stats_at (costing_tree at.costing) at.point).relations

pub first-product : (at : Pricing) (products : List ℕ) → get_or products 0 0 ≡ 1 → AreProducts at products (2 ^ 0)
first-product at products one set below =
    let none : set ≡ 0 = omega (arith, below) in
    ap (λ s. get_or products s 0) none ∙ one
    ∙ sym (ap (λ s. kept_product (set_of s) 0 (kept_at at)) none ∙ no-kept (set_of 0) (λ relation. refl) 0 (kept_at at))

-- the product of a set whose highest relation this is, by that of the others
pub more-product : (at : Pricing) (relation rest kept product : ℕ) → IsCosting (costing_tree at.costing) → relation < length at.costing.block.relations → rest < 2 ^ relation
    → kept ≡ (relation_stats (stats_at (costing_tree at.costing) at.point) relation).kept → product ≡ kept_product (set_of rest) 0 (kept_at at)
    → (kept * product ≡ kept_product (set_of (2 ^ relation + rest)) 0 (kept_at at)) × (kept * product ≤ max_product)
more-product at relation rest kept product is below less kept-is product-is =
    let stats = kept_at at in
    let tree = costing_tree at.costing in
    let there : relation < length stats = omega (arith, below, stats-at-long tree at.point is, length-map at.costing.block.relations relation_tree) in
    let both : kept * product ≡ kept_product (set_of (2 ^ relation + rest)) 0 stats =
    (λ i. kept-is i * product-is i)
    ∙ kept-more (set_of rest) (set_of (2 ^ relation + rest)) relation (others-stay relation rest less) (highest-out relation rest less) (highest-in relation rest less) 0 relation stats _
    (omega arith) there in
    (both, omega (arith, both, product-few tree (set_of (2 ^ relation + rest)) at.point is))

-- the set after those before it
pub highest-small : (costing : CostingShape) (relation rest : ℕ) → IsCosting (costing_tree costing) → relation < length costing.block.relations → rest < 2 ^ relation
    → 2 ^ relation + rest < 64
highest-small costing relation rest is below less =
    let count = length (costing_tree costing).block.relations in
    set-small (costing_tree costing) (2 ^ relation + rest) is (sets-below relation count rest (omega (arith, below, length-map costing.block.relations relation_tree)) less)

pub add-product : (at : Pricing) (products : List ℕ) (end next product : ℕ) → length products ≡ 64 → end < 64 → next ≡ end + 1 → AreProducts at products end
    → product ≡ kept_product (set_of end) 0 (kept_at at) → AreProducts at (slice_set products end product) next × (length (slice_set products end product) ≡ 64)
add-product at products end next product long small is before last =
    let lt : end < length products = omega (arith, long, small) in
    let more = below_more (λ set. get_or (slice_set products end product) set 0 ≡ kept_product (set_of set) 0 (kept_at at)) end
    (λ k h. let ne : k ≢ end = omega arith in rw get_or-set_other (before k h)) (rw get_or-set_same last) in
    (λ set below. more set (omega (arith, is, below)), omega (arith, length-set {A = ℕ}, long))

-- ---- edges

-- for no edge yet a set isn't halved
pub not-halved : (at : Pricing) (halvings : List ℕ) → ((set : ℕ) → set < 64 → get_or halvings set 0 ≡ 0) → AreHalvings at halvings 0
not-halved at halvings none set small =
    let here : get_or halvings set 0 ≡ 0 = none set small in
    record { all = omega (arith, here); few = omega (arith, here) }

-- one edge more
pub halved-next : (at : Pricing) (set edge halvings more : ℕ) → edge < length (block_at at).edges → IsHalved at set edge halvings → more ≤ selectivity_bits
    → more ≡ cond (is_inside (set_of set) (edge_at (block_at at).edges edge)) (halvings_of at.costing.grid.levels (slice_index at.point edge)) 0
    → IsHalved at set (edge + 1) (halvings + more)
halved-next at set edge halvings more below before few is =
    let rest = λ (number : ℕ) (edges : List Edge). halvings_inside at.costing.grid at.point (set_of set) number edges in
    let split : rest edge (drop edge (block_at at).edges) ≡ more + rest (edge + 1) (drop (edge + 1) (block_at at).edges) =
    at_drop_more (rest edge) (block_at at).edges edge _ below ∙ ap (λ n. n + rest (edge + 1) (drop (edge + 1) (block_at at).edges)) (sym is) in
    record { all = omega (arith, before.all, split); few = omega (arith, before.few, few) }

-- one set more
pub add-halved : (at : Pricing) (halvings : List ℕ) (end edge number : ℕ) → length halvings ≡ 64 → end < 64
    → ((set : ℕ) → set < end → IsHalved at set (edge + 1) (get_or halvings set 0))
    → ((set : ℕ) → end ≤ set → set < 64 → IsHalved at set edge (get_or halvings set 0)) → IsHalved at end (edge + 1) number
    → ((set : ℕ) → set < end + 1 → IsHalved at set (edge + 1) (get_or (slice_set halvings end number) set 0))
    × ((set : ℕ) → end + 1 ≤ set → set < 64 → IsHalved at set edge (get_or (slice_set halvings end number) set 0)) × (length (slice_set halvings end number) ≡ 64)
add-halved at halvings end edge number long small before after here =
    let lt : end < length halvings = omega (arith, long, small) in (
      below_more (λ set. IsHalved at set (edge + 1) (get_or (slice_set halvings end number) set 0)) end
          (λ k h. let ne : k ≢ end = omega arith in rw get_or-set_other (before k h)) (rw get_or-set_same here),
      λ set above below. let ne : set ≢ end = omega (arith, above) in rw get_or-set_other (after set (omega (arith, above)) below),
      omega (arith, length-set {A = ℕ}, long),
    )

-- all edges are counted: a product, halved so often, is the card of the set
pub halved-card : (at : Pricing) (set halvings product : ℕ) → IsHalved at set (length (block_at at).edges) halvings
    → product ≡ kept_product (set_of set) 0 (kept_at at) → div_ceil product (2 ^ halvings) ≡ set_card (costing_tree at.costing) at.point set
halved-card at set halvings product all is =
    let edges = (block_at at).edges in
    let none : drop (length edges) edges ≡ [] = drop_all (length edges) edges (omega arith) in
    let whole : halvings ≡ halvings_inside at.costing.grid at.point (set_of set) 0 edges =
    omega (arith, all.all, ap (halvings_inside at.costing.grid at.point (set_of set) (length edges)) none) in
    (λ i. div_ceil (is i) (2 ^ whole i)) ∙ sym (card-once (costing_tree at.costing) (set_of set) at.point)

-- the card of one set more
pub add-card : (at : Pricing) (cards : List ℕ) (end card : ℕ) → length cards ≡ 64 → end < 64
    → ((set : ℕ) → set < end → get_or cards set 0 ≡ set_card (costing_tree at.costing) at.point set)
    → ((set : ℕ) → end ≤ set → IsSetOf (block_at at) set → get_or cards set 0 ≡ kept_product (set_of set) 0 (kept_at at)) → card ≡ set_card (costing_tree at.costing) at.point end
    → ((set : ℕ) → set < end + 1 → get_or (slice_set cards end card) set 0 ≡ set_card (costing_tree at.costing) at.point set)
    × ((set : ℕ) → end + 1 ≤ set → IsSetOf (block_at at) set → get_or (slice_set cards end card) set 0 ≡ kept_product (set_of set) 0 (kept_at at))
    × (length (slice_set cards end card) ≡ 64)
add-card at cards end card long small before after here =
    let lt : end < length cards = omega (arith, long, small) in (
      below_more (λ set. get_or (slice_set cards end card) set 0 ≡ set_card (costing_tree at.costing) at.point set) end
          (λ k h. let ne : k ≢ end = omega arith in rw get_or-set_other (before k h)) (rw get_or-set_same here),
      λ set above below. let ne : set ≢ end = omega (arith, above) in rw get_or-set_other (after set (omega (arith, above)) below),
      omega (arith, length-set {A = ℕ}, long),
    )
