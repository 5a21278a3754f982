-- The contours of a compiled bouquet, made one after another.
use Rattle.std.specs.Prelude.{◌≡◌, ℕ, ◌+◌, ◌≤◌, List, [], ◌∷◌, drop, Option, Some, None}
use Rattle.std.specs.Option.{option_map_or}
use Rattle.sql_values.specs.Limits.{max_threshold}
use Rattle.cost_model.specs.Costing.{CostingShape, IsCosting, costing_tree}
use Rattle.cost_model.specs.Frontier.{frontier}
use Rattle.plan_space.specs.SurfacePoints.{surface_points}
use Rattle.bouquet_type.specs.declared.contour.Contour.{Contour}
use Rattle.bouquet_type.specs.Trees.{BouquetTree, ContourTree, contour_tree}
use Rattle.bouquet_type.specs.Budgets.{contour_cost}
use Rattle.bouquet_type.specs.Compiled.{compiled, contour_count}
use Rattle.bouquet_type.specs.Ladders.{LadderState}
use Rattle.contours.specs.declared.maker.Found.{Found}

-- what the contours are made by, and how many were made
pub record MakerState : Type 0 where
  pub costing : CostingShape
  pub threshold : ℕ
  pub made : ℕ

-- the compiled bouquet, and those of its contours that aren't made yet
abbrev pub whole_of : MakerState → BouquetTree
whole_of m = compiled (costing_tree m.costing) m.threshold

abbrev pub ahead_of : MakerState → List ContourTree
ahead_of m = drop m.made (whole_of m).contours

-- the next contour was made, with the points of its frontier; or all were, and nothing changed
abbrev pub Makes : (old new : MakerState) → Option Found → Type 0
Makes old new (Some found) =
    (whole_of new ≡ whole_of old) × (ahead_of old ≡ contour_tree found.contour ∷ ahead_of new)
    × (surface_points found.points.items ≡ frontier (whole_of old).costing found.contour.cost)
Makes old new None = (ahead_of old ≡ []) × (new ≡ old)

-- the maker knows how many contours there are, and the cost of the next one
pub record IsMaker (m : MakerState) (count cost : ℕ) : Type 0 where
  pub costing : IsCosting (costing_tree m.costing)
  pub threshold : m.threshold ≤ max_threshold
  pub counted : count ≡ contour_count (costing_tree m.costing)
  pub made : m.made ≤ count
  pub next : cost ≡ contour_cost (costing_tree m.costing) (m.made + 1)

-- a maker, and the contour at hand: none at the foot
pub record LazyState : Type 0 where
  pub maker : MakerState
  pub hand : Option Contour

abbrev pub lazy_ladder : LazyState → LadderState
lazy_ladder l = record { whole = whole_of l.maker; hand = option_map_or contour_tree l.hand (record { cost = 0; plans = [] }); ahead = ahead_of l.maker }
