-- Counts at a point: which of them are those of the tables, that they grow with selectivity, and that they fit the block.
use Rattle.std.proofs.Common.{◌≡◌, ◌↔◌, ℕ, zero, suc, ◌+◌, ◌-◌, ◌*◌, ◌≤◌, cond, max, List, [], ◌∷◌, All, map, get_or, unwrap_or, None, Some, Option, IsSome, nat_eq, eqb-true, refl, sym, ap, ◌∙◌, le_refl, arith}
use Rattle.std.specs.Prelude.{Bool, true, false, IfSome, option_map}
use Rattle.std.specs.List.{AllZip}
use Rattle.std.proofs.Math.Nat.{pow-le-pow_right, mul-le-mul_left}
use Rattle.std.proofs.lemmas.Nat.{mul-le}
use Rattle.std.proofs.lemmas.List.Elements.{All-nil, All-cons, All-head, All-tail}
use Rattle.ess_grid.specs.Levels.{selectivity_bits, step_of, halvings_of, selectivity_of}
use Rattle.ess_grid.specs.Points.{GridShape}
use Rattle.ess_grid.specs.Order.{PointBelow}
use Rattle.ess_grid.proofs.PointOrder.{level-below}
use Rattle.ess_grid.proofs.Selectivities.{selectivity_of-le}
use Rattle.query_block.specs.Blocks.{RelationTree, axis_of}
use Rattle.query_block.specs.Meaning.{RelationSet}
use Rattle.plan_tree.specs.Enumerated.{HasUsable}
use Rattle.cost_model.specs.declared.stats.RelationStats.{RelationStats}
use Rattle.cost_model.specs.declared.stats.IndexStats.{IndexStats}
use Rattle.cost_model.specs.Fits.{FitsIndex, FitsRelation, FitsBlock, row_product}
use Rattle.cost_model.specs.Costing.{CostingTree, IsCosting}
use Rattle.cost_model.specs.AtPoint.{scaled_on, axis_of_index, index_stats_at, stats_from, stats_at}
use Rattle.cost_model.specs.Cards.{kept_product}
use Rattle.cost_model.specs.Costs.{relation_stats, index_on, index_stats}
use Rattle.cost_model.proofs.Rounding.{scaled-few, scaled-le}

-- ---- selectivities

pub selectivity-le : (levels lower higher : ℕ) → lower ≤ higher → selectivity_of levels lower ≤ selectivity_of levels higher
selectivity-le levels lower higher le =
    let fewer : levels - 1 - higher ≤ levels - 1 - lower = omega (arith, le) in
    let halvings : halvings_of levels higher ≤ halvings_of levels lower = mul-le-mul_left (step_of levels) fewer in
    let bits : selectivity_bits - halvings_of levels lower ≤ selectivity_bits - halvings_of levels higher = omega (arith, halvings) in
    pow-le-pow_right (omega arith) bits

scaled_on-le : (grid : GridShape) (point other : List ℕ) (axis : Option ℕ) (rows : ℕ) → PointBelow point other → scaled_on grid point axis rows ≤ scaled_on grid other axis rows
scaled_on-le grid point other None rows below = le_refl rows
scaled_on-le grid point other (Some axis) rows below =
    scaled-le rows rows _ _ (le_refl rows) (selectivity-le grid.levels _ _ (level-below point other below axis))

pub scaled_on-few : (grid : GridShape) (point : List ℕ) (axis : Option ℕ) (rows : ℕ) → scaled_on grid point axis rows ≤ rows
scaled_on-few grid point None rows = le_refl rows
scaled_on-few grid point (Some axis) rows = scaled-few rows _ (selectivity_of-le grid.levels (get_or point axis 0))

scaled_on-none : (grid : GridShape) (point : List ℕ) (axis : Option ℕ) → scaled_on grid point axis 0 ≡ 0
scaled_on-none grid point axis = omega (arith, scaled_on-few grid point axis 0)

-- ---- which counts are those of the tables

no_stats : RelationStats
no_stats = record { rows = 0; pages = 0; kept = 0; columns = [] }

abbrev pub column_index : IndexStats → ℕ
column_index index = index.column

column-chosen : (b : Bool) (here later : IndexStats) (column : ℕ) → (b ≡ true → here.column ≡ column) → later.column ≡ column → (cond b here later).column ≡ column
column-chosen true here later column first rest = first refl
column-chosen false here later column first rest = rest

column-on : (columns : List IndexStats) (column : ℕ) → (index_on columns column).column ≡ column
column-on [] column = refl
column-on (index ∷ more) column =
    column-chosen (nat_eq index.column column) index (index_on more column) column (λ same. eqb-true index.column column same) (column-on more column)

mapped-none : (f : ℕ → ℕ) → f 0 ≡ 0 → (matches : Option ℕ) → unwrap_or (option_map f matches) 0 ≡ f (unwrap_or matches 0)
mapped-none f none None = sym none
mapped-none f none (Some n) = refl

module _ (costing : CostingTree) (point : List ℕ) where
  rows-from : (number place : ℕ) (stats : List RelationStats) (none : RelationStats) → (get_or (stats_from costing point number stats) place none).rows ≡ (get_or stats place none).rows
  rows-from number place [] none = refl
  rows-from number zero (one ∷ more) none = refl
  rows-from number (suc place) (one ∷ more) none = rows-from (number + 1) place more none

  pages-from : (number place : ℕ) (stats : List RelationStats) (none : RelationStats) → (get_or (stats_from costing point number stats) place none).pages ≡ (get_or stats place none).pages
  pages-from number place [] none = refl
  pages-from number zero (one ∷ more) none = refl
  pages-from number (suc place) (one ∷ more) none = pages-from (number + 1) place more none

  pub rows-at : (relation : ℕ) → (relation_stats (stats_at costing point) relation).rows ≡ (relation_stats costing.stats relation).rows
  rows-at relation = rows-from 0 relation costing.stats.relations _

  pub pages-at : (relation : ℕ) → (relation_stats (stats_at costing point) relation).pages ≡ (relation_stats costing.stats relation).pages
  pages-at relation = pages-from 0 relation costing.stats.relations _

  -- no rows are kept of a relation that isn't there, at any point
  kept-from : (number place : ℕ) (stats : List RelationStats)
      → (get_or (stats_from costing point number stats) place no_stats).kept ≡ scaled_on costing.grid point (axis_of costing.block (number + place)) (get_or stats place no_stats).kept
  unfolding no_stats
  kept-from number place [] = sym (scaled_on-none costing.grid point (axis_of costing.block (number + place)))
  kept-from number zero (one ∷ more) =
      let here : number ≡ number + 0 = omega arith in
      ap (λ relation. scaled_on costing.grid point (axis_of costing.block relation) one.kept) here
  kept-from number (suc place) (one ∷ more) =
      let next : number + 1 + place ≡ number + suc place = omega arith in
      kept-from (number + 1) place more
      ∙ ap (λ relation. scaled_on costing.grid point (axis_of costing.block relation) (get_or more place no_stats).kept) next

  pub kept-at : (relation : ℕ) → (relation_stats (stats_at costing point) relation).kept ≡ scaled_on costing.grid point (axis_of costing.block relation) (relation_stats costing.stats relation).kept
  unfolding no_stats
  kept-at relation =
      let there : 0 + relation ≡ relation = omega arith in
      kept-from 0 relation costing.stats.relations
      ∙ ap (λ one. scaled_on costing.grid point (axis_of costing.block one) (relation_stats costing.stats relation).kept) there

  columns-from : (number place : ℕ) (stats : List RelationStats)
      → (get_or (stats_from costing point number stats) place no_stats).columns ≡ map (index_stats_at costing point (number + place)) (get_or stats place no_stats).columns
  unfolding no_stats
  columns-from number place [] = refl
  columns-from number zero (one ∷ more) =
      let here : number ≡ number + 0 = omega arith in
      ap (λ relation. map (index_stats_at costing point relation) one.columns) here
  columns-from number (suc place) (one ∷ more) =
      let next : number + 1 + place ≡ number + suc place = omega arith in
      columns-from (number + 1) place more
      ∙ ap (λ relation. map (index_stats_at costing point relation) (get_or more place no_stats).columns) next

  columns-at : (relation : ℕ) → (relation_stats (stats_at costing point) relation).columns ≡ map (index_stats_at costing point relation) (relation_stats costing.stats relation).columns
  unfolding no_stats
  columns-at relation =
      let there : 0 + relation ≡ relation = omega arith in
      columns-from 0 relation costing.stats.relations
      ∙ ap (λ one. map (index_stats_at costing point one) (relation_stats costing.stats relation).columns) there

  chosen : (relation : ℕ) (b : Bool) (here later rest : IndexStats) → rest ≡ index_stats_at costing point relation later
      → cond b (index_stats_at costing point relation here) rest ≡ index_stats_at costing point relation (cond b here later)
  chosen relation true here later rest is = refl
  chosen relation false here later rest is = is

  index-among : (relation column : ℕ) (columns : List IndexStats) → index_on (map (index_stats_at costing point relation) columns) column ≡ index_stats_at costing point relation (index_on columns column)
  index-among relation column [] = refl
  index-among relation column (index ∷ more) =
      chosen relation (nat_eq index.column column) index (index_on more column) _ (index-among relation column more)

  pub index-at : (relation column : ℕ) → index_stats (stats_at costing point) relation column ≡ index_stats_at costing point relation (index_stats costing.stats relation column)
  index-at relation column =
      ap (λ columns. index_on columns column) (columns-at relation) ∙ index-among relation column (relation_stats costing.stats relation).columns

  pub height-at : (relation column : ℕ) → (index_stats (stats_at costing point) relation column).height ≡ (index_stats costing.stats relation column).height
  height-at relation column = ap (λ (index : IndexStats). index.height) (index-at relation column)

  pub matches-at : (relation column : ℕ) → unwrap_or (index_stats (stats_at costing point) relation column).matches 0
      ≡ scaled_on costing.grid point (axis_of_index costing.block relation column) (unwrap_or (index_stats costing.stats relation column).matches 0)
  matches-at relation column =
      let of : IndexStats → ℕ = λ index. unwrap_or index.matches 0 in
      let index = index_stats costing.stats relation column in
      ap of (index-at relation column)
      ∙ mapped-none (scaled_on costing.grid point (axis_of_index costing.block relation index.column)) (scaled_on-none costing.grid point (axis_of_index costing.block relation index.column)) index.matches
      ∙ ap (λ (one : ℕ). scaled_on costing.grid point (axis_of_index costing.block relation one) (of index)) (column-on (relation_stats costing.stats relation).columns column)

-- ---- they grow with selectivity

factor-le : (b : Bool) (kept more : ℕ) → kept ≤ more → cond b kept 1 ≤ cond b more 1
factor-le true kept more le = le
factor-le false kept more le = le_refl 1

matches-most : (f g : ℕ → ℕ) → ((n : ℕ) → f n ≤ g n) → (matches : Option ℕ) → unwrap_or (option_map f matches) 0 ≤ unwrap_or (option_map g matches) 0
matches-most f g le None = le_refl 0
matches-most f g le (Some n) = le n

module _ (costing : CostingTree) (point other : List ℕ) (below : PointBelow point other) where
  kept-from-le : (set : RelationSet) (number : ℕ) (stats : List RelationStats) → kept_product set number (stats_from costing point number stats) ≤ kept_product set number (stats_from costing other number stats)
  kept-from-le set number [] = le_refl 1
  kept-from-le set number (one ∷ more) =
      mul-le _ _ _ _ (factor-le (set number) _ _ (scaled_on-le costing.grid point other (axis_of costing.block number) one.kept below)) (kept-from-le set (number + 1) more)

  pub kept-le : (set : RelationSet) → kept_product set 0 (stats_at costing point).relations ≤ kept_product set 0 (stats_at costing other).relations
  kept-le set = kept-from-le set 0 costing.stats.relations

  pub matches-le : (relation column : ℕ) → unwrap_or (index_stats (stats_at costing point) relation column).matches 0 ≤ unwrap_or (index_stats (stats_at costing other) relation column).matches 0
  matches-le relation column =
      let index = index_stats costing.stats relation column in
      let axis = axis_of_index costing.block relation index.column in
      let of : IndexStats → ℕ = λ one. unwrap_or one.matches 0 in
      let here = ap of (index-at costing point relation column) in
      let there = ap of (index-at costing other relation column) in
      let le = matches-most (scaled_on costing.grid point axis) (scaled_on costing.grid other axis) (λ n. scaled_on-le costing.grid point other axis n below) index.matches in
      omega (arith, here, there, le)

-- ---- and fit the block

some-mapped : (f : ℕ → ℕ) (P : Type 0) (matches : Option ℕ) → IsSome matches ↔ P → IsSome (option_map f matches) ↔ P
some-mapped f P None is = is
some-mapped f P (Some n) is = is

few-mapped : (f : ℕ → ℕ) → ((n : ℕ) → f n ≤ n) → (matches : Option ℕ) (rows : ℕ) → IfSome matches (λ n. n ≤ rows) → IfSome (option_map f matches) (λ n. n ≤ rows)
few-mapped f less None rows few = few
few-mapped f less (Some n) rows few = omega (arith, less n, few)

module _ (costing : CostingTree) (point : List ℕ) where
  fits-index : (relation : RelationTree) (rows number : ℕ) (index : IndexStats) → FitsIndex relation rows index → FitsIndex relation rows (index_stats_at costing point number index)
  fits-index relation rows number index fits =
      let f = scaled_on costing.grid point (axis_of_index costing.block number index.column) in
      record {
        some_height = fits.some_height;
        low = fits.low;
        counted = some-mapped f (HasUsable relation index.column) index.matches fits.counted;
        matches = few-mapped f (scaled_on-few costing.grid point (axis_of_index costing.block number index.column)) index.matches rows fits.matches;
      }

  fits-indexes : (relation : RelationTree) (rows number : ℕ) (columns : List IndexStats) → All (FitsIndex relation rows) columns → All (FitsIndex relation rows) (map (index_stats_at costing point number) columns)
  fits-indexes relation rows number [] all = All-nil (FitsIndex relation rows)
  fits-indexes relation rows number (index ∷ more) all =
      All-cons (FitsIndex relation rows) _ _ (fits-index relation rows number index (All-head (FitsIndex relation rows) index more all))
      (fits-indexes relation rows number more (All-tail (FitsIndex relation rows) index more all))

  same-columns : (number : ℕ) (columns : List IndexStats) → map column_index (map (index_stats_at costing point number) columns) ≡ map column_index columns
  same-columns number [] = refl
  same-columns number (index ∷ more) = ap (λ rest. index.column ∷ rest) (same-columns number more)

  fits-relation : (relation : RelationTree) (number : ℕ) (stats : RelationStats) → FitsRelation relation stats → FitsRelation relation (record { rows = stats.rows; pages = stats.pages; kept = scaled_on costing.grid point (axis_of costing.block number) stats.kept; columns = map (index_stats_at costing point number) stats.columns })
  fits-relation relation number stats fits = record {
    rows = fits.rows;
    pages = fits.pages;
    kept = omega (arith, fits.kept, scaled_on-few costing.grid point (axis_of costing.block number) stats.kept);
    indexes = same-columns number stats.columns ∙ fits.indexes;
    columns = fits-indexes relation stats.rows number stats.columns fits.columns;
  }

  fits-relations : (relations : List RelationTree) (number : ℕ) (stats : List RelationStats) → AllZip FitsRelation relations stats → AllZip FitsRelation relations (stats_from costing point number stats)
  fits-relations [] number [] fits = fits
  fits-relations [] number (one ∷ more) fits = absurd fits
  fits-relations (relation ∷ relations) number [] fits = absurd fits
  fits-relations (relation ∷ relations) number (one ∷ more) fits = (fits-relation relation number one fits.0, fits-relations relations (number + 1) more fits.1)

  same-product : (number : ℕ) (stats : List RelationStats) → row_product (stats_from costing point number stats) ≡ row_product stats
  same-product number [] = refl
  same-product number (one ∷ more) = ap (λ rest. max 1 one.rows * rest) (same-product (number + 1) more)

  pub fits-at : IsCosting costing → FitsBlock costing.block (stats_at costing point)
  fits-at is = record {
    relations = fits-relations costing.block.relations 0 costing.stats.relations is.stats.relations;
    product = omega (arith, same-product 0 costing.stats.relations, is.stats.product);
  }
