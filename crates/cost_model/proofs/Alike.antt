-- Counts and cards at two points that are alike for a set.
use Rattle.std.proofs.Common.{◌≡◌, ℕ, suc, ◌+◌, ◌*◌, ◌<◌, cond, IsTrue, List, [], ◌∷◌, length, None, Some, Option, refl, sym, ap, subst, ◌∙◌, arith}
use Rattle.std.specs.Prelude.{Bool, true, false, option_map, slice_index}
use Rattle.ess_grid.specs.Levels.{selectivity_of}
use Rattle.ess_grid.specs.Points.{GridShape}
use Rattle.query_block.specs.declared.edge.Edge.{Edge}
use Rattle.query_block.specs.Blocks.{relation_at, axis_of}
use Rattle.query_block.specs.Meaning.{RelationSet, is_inside}
use Rattle.plan_tree.specs.Enumerated.{edge_at}
use Rattle.cost_model.specs.declared.stats.RelationStats.{RelationStats}
use Rattle.cost_model.specs.declared.stats.IndexStats.{IndexStats}
use Rattle.cost_model.specs.Costing.{CostingTree}
use Rattle.cost_model.specs.AtPoint.{scaled, scaled_on, has_open_usable, axis_of_index, index_stats_at, stats_from, stats_at}
use Rattle.cost_model.specs.Alike.{IsAlike}
use Rattle.cost_model.specs.Cards.{kept_product, scaled_by_edges, card_of}
use Rattle.cost_model.specs.Costs.{index_stats}
use Rattle.cost_model.proofs.AtPoint.{index-at}
use Rattle.cost_model.proofs.Cards.{card-of-set}

-- the same level on an axis, if there is one
abbrev SameOn : (point other : List ℕ) → Option ℕ → Type 0
SameOn point other axis = (one : ℕ) → axis ≡ Some one → slice_index point one ≡ slice_index other one

scaled_on-alike : (grid : GridShape) (point other : List ℕ) (axis : Option ℕ) (rows : ℕ) → SameOn point other axis → scaled_on grid point axis rows ≡ scaled_on grid other axis rows
scaled_on-alike grid point other None rows same = refl
scaled_on-alike grid point other (Some axis) rows same = ap (λ level. scaled rows (selectivity_of grid.levels level)) (same axis refl)

-- an index has no other axis than its relation
of-relation : (b : Bool) (axis : Option ℕ) (one : ℕ) → cond b axis None ≡ Some one → axis ≡ Some one
of-relation true axis one is = is
of-relation false axis one is = cc

factor-alike : (b : Bool) (kept other : ℕ) → (IsTrue b → kept ≡ other) → cond b kept 1 ≡ cond b other 1
factor-alike true kept other same = same refl
factor-alike false kept other same = refl

mapped-alike : (f g : ℕ → ℕ) → ((n : ℕ) → f n ≡ g n) → (matches : Option ℕ) → option_map f matches ≡ option_map g matches
mapped-alike f g same None = refl
mapped-alike f g same (Some n) = ap Some (same n)

scaled-if : (b : Bool) (rows levels level other : ℕ) → (IsTrue b → level ≡ other) → cond b (scaled rows (selectivity_of levels level)) rows ≡ cond b (scaled rows (selectivity_of levels other)) rows
scaled-if true rows levels level other same = ap (λ one. scaled rows (selectivity_of levels one)) (same refl)
scaled-if false rows levels level other same = refl

edges-alike : (grid : GridShape) (point other : List ℕ) (set : RelationSet) (number : ℕ) (edges : List Edge) (rows : ℕ)
    → ((k : ℕ) → k < length edges → IsTrue (is_inside set (edge_at edges k)) → slice_index point (number + k) ≡ slice_index other (number + k))
    → scaled_by_edges grid point set number edges rows ≡ scaled_by_edges grid other set number edges rows
edges-alike grid point other set number [] rows same = refl
edges-alike grid point other set number (edge ∷ edges) rows same =
    let here : number + 0 ≡ number = omega arith in
    let level : IsTrue (is_inside set edge) → slice_index point number ≡ slice_index other number =
    λ inside. subst (λ n. slice_index point n ≡ slice_index other n) here (same 0 (omega arith) inside) in
    ap (scaled_by_edges grid point set (number + 1) edges) (scaled-if (is_inside set edge) rows grid.levels (slice_index point number) (slice_index other number) level)
    ∙ edges-alike grid point other set (number + 1) edges _ (λ k below inside.
    let next : number + suc k ≡ number + 1 + k = omega arith in
    subst (λ n. slice_index point n ≡ slice_index other n) next (same (suc k) (omega (arith, below)) inside))

module _ (costing : CostingTree) (set : RelationSet) (point other : List ℕ) (alike : IsAlike costing.block set point other) where
  kept-from-alike : (number : ℕ) (stats : List RelationStats) → kept_product set number (stats_from costing point number stats) ≡ kept_product set number (stats_from costing other number stats)
  kept-from-alike number [] = refl
  kept-from-alike number (one ∷ more) =
      let axis = axis_of costing.block number in
      let first = factor-alike (set number) (scaled_on costing.grid point axis one.kept) (scaled_on costing.grid other axis one.kept)
      (λ there. scaled_on-alike costing.grid point other axis one.kept (λ a is. alike.relations number a there is)) in
      let rest = kept-from-alike (number + 1) more in
      λ i. first i * rest i

  pub card-alike : card_of costing set point ≡ card_of costing set other
  unfolding card_of
  card-alike =
      ap (scaled_by_edges costing.grid point set 0 costing.block.edges) (kept-from-alike 0 costing.stats.relations)
      ∙ edges-alike costing.grid point other set 0 costing.block.edges (kept_product set 0 (stats_at costing other).relations) (λ k below inside.
      let there : k ≡ 0 + k = omega arith in
      subst (λ n. slice_index point n ≡ slice_index other n) there (alike.edges k below inside))

  -- the matches of an index of a relation in the set
  pub index-alike : (relation column : ℕ) → IsTrue (set relation) → index_stats (stats_at costing point) relation column ≡ index_stats (stats_at costing other) relation column
  index-alike relation column there =
      let index = index_stats costing.stats relation column in
      let axis = axis_of_index costing.block relation index.column in
      let of : Option ℕ → IndexStats = λ matches. record { column = index.column; height = index.height; matches = matches } in
      let same : index_stats_at costing point relation index ≡ index_stats_at costing other relation index =
      ap of (mapped-alike (scaled_on costing.grid point axis) (scaled_on costing.grid other axis) (λ n. scaled_on-alike costing.grid point other axis n (λ a is.
      alike.relations relation a there (of-relation (has_open_usable (relation_at costing.block.relations relation) index.column) (axis_of costing.block relation) a is))) index.matches) in
      index-at costing point relation column ∙ same ∙ sym (index-at costing other relation column)

-- a card depends on the set alone, and on the levels of its axes
pub card-of-alike : (costing : CostingTree) (set other : RelationSet) (point elsewhere : List ℕ) → ((relation : ℕ) → set relation ≡ other relation)
    → IsAlike costing.block set point elsewhere → card_of costing set point ≡ card_of costing other elsewhere
card-of-alike costing set other point elsewhere same alike = card-alike costing set point elsewhere alike ∙ card-of-set costing set other elsewhere same
