-- What exhausted executions show where works are at most costs: on each axis the least level that they leave.
use Rattle.std.specs.Prelude.{ℕ, nat_lt, Bool, List, [], ◌∷◌, Option, Some, None, filter, map, slice_index}
use Rattle.std.specs.List.{list_all, range_with_len}
use Rattle.ess_grid.specs.Points.{GridShape, points_of}
use Rattle.cost_model.specs.Costing.{CostingTree}
use Rattle.cost_model.specs.Costs.{cost_of}
use Rattle.cost_model.specs.Optimal.{least_of}
use Rattle.bouquet_type.specs.Schedule.{Member}

-- whether each of these plans costs more than its budget at a point
abbrev pub is_left : CostingTree → (exhausted : List Member) → (point : List ℕ) → Bool
is_left costing exhausted point = list_all (λ member. nat_lt member.budget (cost_of costing member.plan point)) exhausted

-- the points of the grid at which each does
unfoldable pub points_left : CostingTree → (exhausted : List Member) → List (List ℕ)
points_left costing exhausted = filter (is_left costing exhausted) (points_of costing.grid)

-- the least level of some points on an axis, from 0
abbrev pub least_level : (points : List (List ℕ)) → (axis : ℕ) → ℕ
least_level points axis = least_of (map (λ point. slice_index point axis) points)

-- their least levels on all axes of a grid, if there are points
abbrev pub least_levels : GridShape → (points : List (List ℕ)) → Option (List ℕ)
least_levels grid [] = None
least_levels grid (point ∷ more) = Some (map (least_level (point ∷ more)) (range_with_len 0 grid.axes))

-- the learned point: those of the points that are left. None where nothing is exhausted, or no point is left
abbrev pub learned_point : CostingTree → (exhausted : List Member) → Option (List ℕ)
learned_point costing [] = None
learned_point costing (member ∷ more) = least_levels costing.grid (points_left costing (member ∷ more))
