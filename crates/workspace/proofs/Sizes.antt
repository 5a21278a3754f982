-- What refuses the size of a block, by what its grid and its counts say.
use Rattle.std.proofs.Common.{◌≡◌, ℕ, ◌^◌, ◌<◌, ◌≤◌, Bool, true, false, Option, Some, None, inl, inr, refl, sym, ap, subst, nat_lt, if◌then◌else◌, arith}
use Rattle.std.specs.Prelude.{option_map}
use Rattle.std.specs.Option.{option_or}
use borrow.Author.Tests.{lt-ltb, ltb-true}
use Rattle.sql_values.specs.Limits.{min_levels, max_levels, max_points}
use Rattle.sql_values.specs.declared.limit.LimitName.TheVariants as limit
use Rattle.query_block.specs.Blocks.{BlockTree, axes_of}
use Rattle.db_catalog.specs.Database.{DatabaseState}
use Rattle.cost_model.specs.Costing.{CostingTree}
use Rattle.cost_model.specs.declared.stats.Stats.{Stats}
use Rattle.ess_grid.specs.Points.{GridShape}
use Rattle.ess_grid.specs.declared.fault.GridFault.{GridFault}
use Rattle.ess_grid.specs.declared.fault.GridFault.TheVariants as grid
use Rattle.ess_grid.specs.Refused.{HasBadLevels, HasTooManyPoints}
use Rattle.table_stats.specs.declared.fault.StatsFault.{StatsFault}
use Rattle.table_stats.specs.declared.fault.StatsFault.TheVariants as counts
use Rattle.table_stats.specs.Product.{first_past, row_counts}
use Rattle.workspace.specs.Bouquets.{AreGridLevels, AreSizes, costing_over, points_refusal, product_refusal, size_refusal}
use Rattle.workspace.specs.Stop.{StopsWhere, stop_of_counts, stop_of_grid}
use Rattle.workspace.specs.declared.refusal.Refusal.{Refusal}
use Rattle.workspace.specs.declared.refusal.Refusal.TheVariants as refusal

too_many : (axes points : ℕ) (levels : Option ℕ) → (levels ≡ None → ⊥) → HasTooManyPoints axes levels points → points_refusal axes levels ≡ Some (refusal.PastLimit limit.Points points)
too_many axes points None some has = absurd (some refl)
too_many axes points (Some given) some has =
    let past : nat_lt max_points (given ^ axes) ≡ true = lt-ltb _ _ (subst (λ n. max_points < n) has.are_so_many has.are_too_many) in
    rw past (ap (λ n. Some (refusal.PastLimit limit.Points n)) (sym has.are_so_many))

pub few_points : (axes : ℕ) (levels : Option ℕ) → AreGridLevels levels → ((points : ℕ) → HasTooManyPoints axes levels points → ⊥) → points_refusal axes levels ≡ None
few_points axes None are few = refl
few_points axes (Some given) are few = by (nat_lt max_points (given ^ axes)) refl
  where
    by : (b : Bool) → nat_lt max_points (given ^ axes) ≡ b → (if b then Some (refusal.PastLimit limit.Points (given ^ axes)) else None) ≡ None
    by true past = absurd (few (given ^ axes) (record { some_levels = are.0; few_levels = are.1; are_so_many = refl; are_too_many = ltb-true _ _ past }))
    by false past = refl

-- there is no such grid
pub grid_stops : (holds : Refusal → Type 0) (axes : ℕ) (levels : Option ℕ) (fault : GridFault) → AreGridLevels levels → (levels ≡ None → ⊥) → ((given : ℕ) → fault ≡ grid.BadLevels given → HasBadLevels levels given)
    → ((points : ℕ) → fault ≡ grid.TooManyPoints points → HasTooManyPoints axes levels points) → ((found : Refusal) → points_refusal axes levels ≡ Some found → holds found) → StopsWhere holds (stop_of_grid fault)
grid_stops holds axes levels (grid.BadLevels given) are some bad many leads =
    let has = bad given refl in
    let range : (min_levels ≤ given) × (given ≤ max_levels) = subst AreGridLevels has.are_given are in
    absurd (elim has.are_bad [ inl low ↦ omega (arith, low, range.0) | inr high ↦ omega (arith, high, range.1) ])
grid_stops holds axes levels (grid.TooManyPoints points) are some bad many leads = (leads _ (too_many axes points levels some (many points refl)), refl)

-- the tables have too many combinations of rows
pub counts_stop : (holds : Refusal → Type 0) (fault : StatsFault) → ((value : ℕ) → fault ≡ counts.ProductLimit value → holds (refusal.PastLimit limit.Product value)) → StopsWhere holds (stop_of_counts fault)
counts_stop holds (counts.ProductLimit value) past = (past value refl, refl)
counts_stop holds counts.NoMemory past = tt

abbrev pub costing_by : BlockTree → GridShape → Stats → CostingTree
costing_by block grid stats = record { block = block; stats = stats; grid = grid }

module _ (database : DatabaseState) (block : BlockTree) where
  -- the first product past the limit
  abbrev product_past : Option ℕ
  product_past = first_past 1 (row_counts database.tables block.relations)

  pub past_product : (value : ℕ) → product_past ≡ Some value → product_refusal database block ≡ Some (refusal.PastLimit limit.Product value)
  past_product value is = ap (option_map (λ number. refusal.PastLimit limit.Product number)) is

  pub small_product : ((value : ℕ) → product_past ≡ Some value → ⊥) → product_refusal database block ≡ None
  small_product small = by product_past refl
    where
      by : (past : Option ℕ) → product_past ≡ past → option_map (λ value. refusal.PastLimit limit.Product value) past ≡ None
      by None is = refl
      by (Some value) is = absurd (small value is)

-- the costs by the grid of a block and its counts
pub costs : (database : DatabaseState) (levels : Option ℕ) (block : BlockTree) (grid : GridShape) (stats : Stats) → AreSizes database block levels (grid, stats)
    → costing_by block grid stats ≡ costing_over database block levels
costs database levels block grid stats are = λ i. costing_by block (are.grid i) (are.stats i)

-- the points of a block's grid decide, then the combinations of its tables' rows
pub decided : (database : DatabaseState) (levels : Option ℕ) (block : BlockTree) (points product : Option Refusal) → points_refusal (axes_of block) levels ≡ points → product_refusal database block ≡ product
    → size_refusal database block levels ≡ option_or points product
decided database levels block points product are is = λ i. option_or (are i) (is i)
