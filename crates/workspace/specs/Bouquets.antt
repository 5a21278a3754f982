-- The bouquet of a query.
use Rattle.std.specs.Prelude.{◌≡◌, ℕ, ◌^◌, ◌≤◌, nat_lt, List, [], ◌∷◌, ◌++◌, length, Option, Some, None, IfSome, option_map, Result, Ok, Err, if◌then◌else◌}
use Rattle.std.specs.Option.{option_or}
use Rattle.sql_values.specs.Limits.{min_levels, max_levels, max_points, max_script_bytes}
use Rattle.sql_values.specs.declared.limit.LimitName.TheVariants as limit
use Rattle.sql_values.specs.Steps.{Checked, pure, ◌>>=◌, ◌>>◌}
use Rattle.query_block.specs.Blocks.{BlockTree, axes_of}
use Rattle.sql_parse.specs.Trees.{QueryTree}
use Rattle.sql_parse.specs.WellFormed.{IsWellFormedQuery}
use Rattle.sql_parse.specs.Counts.{of_condition, predicates_in}
use Rattle.sql_parse.specs.Parameters.{parameters_of_condition}
use Rattle.db_catalog.specs.Database.{DatabaseState}
use Rattle.sql_bind.specs.Binding.{bind_fault, block_of}
use Rattle.ess_grid.specs.Levels.{levels_of}
use Rattle.ess_grid.specs.Points.{GridShape}
use Rattle.cost_model.specs.Costing.{CostingTree}
use Rattle.cost_model.specs.Counts.{stats_of}
use Rattle.cost_model.specs.Fits.{FitsBlock}
use Rattle.cost_model.specs.declared.stats.Stats.{Stats}
use Rattle.table_stats.specs.Product.{first_past, row_counts}
use Rattle.bouquet_type.specs.Trees.{BouquetTree}
use Rattle.bouquet_type.specs.Compiled.{compiled}
use Rattle.workspace.specs.Printed.{size_line}
use Rattle.workspace.specs.declared.refusal.Refusal.{Refusal}
use Rattle.workspace.specs.declared.refusal.Refusal.TheVariants as refusal
use Rattle.workspace.specs.declared.stop.Stop.{Stop}
use Rattle.workspace.specs.Outcome.{Outcome, Prints, unless}
use Rattle.workspace.specs.Stop.{StopsWhere}
use Rattle.workspace.specs.World.{World}

-- a query as a script may have it: of the grammar's form, with no more predicates, and no more parameters, than a script may have
-- bytes
pub record IsScriptQuery (query : QueryTree) : Type 0 where
  pub well_formed : IsWellFormedQuery query
  pub predicates : of_condition predicates_in query.condition ≤ max_script_bytes
  pub parameters : length (parameters_of_condition query.condition) ≤ max_script_bytes

-- levels that an axis may have, where they are given
abbrev pub AreGridLevels : (levels : Option ℕ) → Type 0
AreGridLevels levels = IfSome levels (λ given. (min_levels ≤ given) × (given ≤ max_levels))

-- what the costs of a block's plans depend on: the counts of its tables, and a grid of its axes, each with so many levels,
-- or as many as none given say
abbrev pub costing_over : DatabaseState → BlockTree → (levels : Option ℕ) → CostingTree
costing_over database block levels =
    let axes = axes_of block in
    record { block = block; stats = stats_of database.tables block; grid = record { axes = axes; levels = levels_of axes levels } }

-- a grid with so many points, which are too many; where no levels are given there are few enough
abbrev pub points_refusal : (axes : ℕ) → (levels : Option ℕ) → Option Refusal
points_refusal axes None = None
points_refusal axes (Some levels) = if nat_lt max_points (levels ^ axes) then Some (refusal.PastLimit limit.Points (levels ^ axes)) else None

-- tables with so many combinations of rows, which are too many
abbrev pub product_refusal : DatabaseState → BlockTree → Option Refusal
product_refusal database block = option_map (λ value. refusal.PastLimit limit.Product value) (first_past 1 (row_counts database.tables block.relations))

-- the first of the two that comes
abbrev pub size_refusal : DatabaseState → BlockTree → (levels : Option ℕ) → Option Refusal
size_refusal database block levels = option_or (points_refusal (axes_of block) levels) (product_refusal database block)

-- the grid of a block and the counts of its tables, where nothing refuses their size
pub record AreSizes (database : DatabaseState) (block : BlockTree) (levels : Option ℕ) (sizes : GridShape × Stats) : Type 0 where
  pub unrefused : size_refusal database block levels ≡ None
  pub grid : sizes.0 ≡ (costing_over database block levels).grid
  pub stats : sizes.1 ≡ (costing_over database block levels).stats
  pub fits : FitsBlock block sizes.1

-- they are returned, or why there are none, which costs nothing
abbrev pub GivesSizes : DatabaseState → BlockTree → (levels : Option ℕ) → Result (GridShape × Stats) Stop → Type 0
GivesSizes database block levels (Ok sizes) = AreSizes database block levels sizes
GivesSizes database block levels (Err why) = StopsWhere (λ found. size_refusal database block levels ≡ Some found) why

-- the compiled bouquet of a block, unless the points of its grid or the product of its tables' rows refuse it
abbrev pub compiled_due : DatabaseState → (levels : Option ℕ) → (threshold : ℕ) → BlockTree → Checked Refusal BouquetTree
compiled_due database levels threshold block = do
  unless (λ why. why) (size_refusal database block levels)
  pure (compiled (costing_over database block levels) threshold)

-- the block of a query, unless binding refuses it
abbrev pub block_due : DatabaseState → QueryTree → Checked Refusal BlockTree
block_due database query = do
  unless refusal.NotBound (bind_fault database query)
  pure (block_of database query)

-- the compiled bouquet of a query
abbrev pub bouquet_due : DatabaseState → QueryTree → (levels : Option ℕ) → (threshold : ℕ) → Checked Refusal BouquetTree
bouquet_due database query levels threshold = do
  block ← block_due database query
  compiled_due database levels threshold block

-- what is due is returned, as it is seen so, or why there is none, which costs nothing
abbrev pub GivesDue : {T Seen : Type 0} → (T → Seen) → Result Seen Refusal → Result T Stop → Type 0
GivesDue seen due (Ok given) = due ≡ Ok (seen given)
GivesDue seen due (Err why) = StopsWhere (λ found. due ≡ Err found) why

-- a bouquet is kept under a name, with the text of its query, and its size is printed behind a label
abbrev pub kept_as : (label : List ℕ) → World → (name text : List ℕ) → BouquetTree → Outcome
kept_as label world name text bouquet =
    Prints (size_line label bouquet) 0 (record world { bouquets = world.bouquets ++ record { name = name; query = text; bouquet = bouquet } ∷ [] })
