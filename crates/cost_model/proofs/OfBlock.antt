-- A card depends on nothing but the block's relations in the set.
use Rattle.std.proofs.Common.{◌≡◌, ℕ, ◌+◌, ◌-◌, ◌*◌, ◌^◌, ◌<◌, cond, List, [], ◌∷◌, All, length, bit_and, refl, sym, ap, ap₂, ◌∙◌, arith}
use Rattle.std.specs.Prelude.{◌&&◌}
use Rattle.std.specs.Int.{bit_at}
use Rattle.std.proofs.lemmas.List.Elements.{All-head, All-tail}
use Rattle.std.proofs.lemmas.Nat.{and_le_r, pow_pos}
use Rattle.std.proofs.lemmas.Nat.Bits.{bit_at_and, bit_at_ones, bit_at-lt}
use Rattle.ess_grid.specs.Points.{GridShape}
use Rattle.query_block.specs.declared.edge.Edge.{Edge}
use Rattle.query_block.specs.Blocks.{RelationTree, IsEdge}
use Rattle.query_block.specs.Meaning.{RelationSet, is_inside}
use Rattle.plan_tree.specs.Sets.{set_of}
use Rattle.cost_model.specs.declared.stats.RelationStats.{RelationStats}
use Rattle.cost_model.specs.Costing.{CostingTree, IsCosting}
use Rattle.cost_model.specs.AtPoint.{scaled, stats_at}
use Rattle.cost_model.specs.Cards.{kept_product, scaled_by_edges, selectivity_at, card_of}
use Rattle.cost_model.proofs.Bounds.{stats-at-long}
use Rattle.cost_model.proofs.SetCards.{by-bit}

-- two sets that have the same of the first relations
abbrev AgreeBelow : (end : ℕ) → RelationSet → RelationSet → Type 0
AgreeBelow end set other = (relation : ℕ) → relation < end → set relation ≡ other relation

kept-agree : (set other : RelationSet) (number : ℕ) (stats : List RelationStats) → AgreeBelow (number + length stats) set other → kept_product set number stats ≡ kept_product other number stats
kept-agree set other number [] agree = refl
kept-agree set other number (one ∷ more) agree =
    let first = ap (λ b. cond b one.kept 1) (agree number (omega arith)) in
    let rest = kept-agree set other (number + 1) more (λ relation below. agree relation (omega (arith, below))) in
    λ i. first i * rest i

edges-agree : (grid : GridShape) (point : List ℕ) (set other : RelationSet) (relations : List RelationTree) → AgreeBelow (length relations) set other
    → (number : ℕ) (edges : List Edge) (rows : ℕ) → All (IsEdge relations) edges → scaled_by_edges grid point set number edges rows ≡ scaled_by_edges grid point other number edges rows
edges-agree grid point set other relations agree number [] rows all = refl
edges-agree grid point set other relations agree number (edge ∷ edges) rows all =
    let here = All-head (IsEdge relations) edge edges all in
    let inside : is_inside set edge ≡ is_inside other edge = ap₂ (λ a b. a && b) (agree edge.left here.left.0) (agree edge.right here.right.0) in
    ap (λ b. scaled_by_edges grid point set (number + 1) edges (cond b (scaled rows (selectivity_at grid point number)) rows)) inside
    ∙ edges-agree grid point set other relations agree (number + 1) edges _ (All-tail (IsEdge relations) edge edges all)

card-agree : (costing : CostingTree) (set other : RelationSet) (point : List ℕ) → IsCosting costing → AgreeBelow (length costing.block.relations) set other
    → card_of costing set point ≡ card_of costing other point
unfolding card_of
card-agree costing set other point is agree =
    let stats = (stats_at costing point).relations in
    let kept = kept-agree set other 0 stats (λ relation below. agree relation (omega (arith, below, stats-at-long costing point is))) in
    ap (scaled_by_edges costing.grid point set 0 costing.block.edges) kept
    ∙ edges-agree costing.grid point set other costing.block.relations agree 0 costing.block.edges _ is.block.edges

-- the block's relations of a set, as a number
in-block : (set count relation : ℕ) → relation < count → set_of (bit_and set (2 ^ count - 1)) relation ≡ set_of set relation
in-block set count relation below =
    let bit : bit_at (bit_and set (2 ^ count - 1)) relation ≡ bit_at set relation =
    omega (arith, bit_at_and set (2 ^ count - 1) relation, bit_at_ones count relation below, bit_at-lt set relation) in
    by-bit _ relation (bit_at set relation) bit ∙ sym (by-bit set relation (bit_at set relation) refl)

pub below-all : (set count masked : ℕ) → masked ≡ bit_and set (2 ^ count - 1) → masked < 2 ^ count
below-all set count masked is = omega (arith, is, and_le_r set (2 ^ count - 1), pow_pos count)

pub card-of-block : (costing : CostingTree) (set masked : ℕ) (point : List ℕ) → IsCosting costing → masked ≡ bit_and set (2 ^ length costing.block.relations - 1)
    → card_of costing (set_of masked) point ≡ card_of costing (set_of set) point
card-of-block costing set masked point is same =
    ap (λ n. card_of costing (set_of n) point) same
    ∙ card-agree costing (set_of (bit_and set (2 ^ length costing.block.relations - 1))) (set_of set) point is (in-block set (length costing.block.relations))
