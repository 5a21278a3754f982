-- Which executions of a bouquet's schedule are skipped, and how the run goes without them.
use Rattle.std.specs.Prelude.{ℕ, ◌-◌, ◌≤◌, ◌++◌, ◌&&◌, nat_le, Bool, true, false, List, [], ◌∷◌, Option, Some, None, IsSomeAnd, is_some, length, slice_get, if◌then◌else◌}
use Rattle.std.specs.List.{list_any}
use Rattle.std.specs.Option.{option_map_or}
use Rattle.ess_grid.specs.Points.{IsPoint}
use Rattle.plan_tree.specs.Plans.{PlanTree}
use Rattle.cost_model.specs.Costing.{CostingTree}
use Rattle.cost_model.specs.Frontier.{frontier}
use Rattle.cost_model.specs.Greedy.{covers_at}
use Rattle.bouquet_type.specs.Trees.{BouquetTree}
use Rattle.bouquet_type.specs.Schedule.{Member, schedule, final_plan}
use Rattle.bouquet_type.specs.Runs.{RunEnd, end_of}
use Rattle.bouquet_type.specs.Skipping.{without_skipped}
use Rattle.learned_run.specs.declared.learned.Skip.{Skip}
use Rattle.learned_run.specs.Learning.{learned_point}

-- whether a point is at or below another one on every axis
abbrev pub is_at_or_below : (point other : List ℕ) → Bool
is_at_or_below [] [] = true
is_at_or_below [] (higher ∷ more) = false
is_at_or_below (level ∷ rest) [] = false
is_at_or_below (level ∷ rest) (higher ∷ more) = nat_le level higher && is_at_or_below rest more

-- whether a plan covers one of some points at or above a point
abbrev pub covers_above : CostingTree → (threshold : ℕ) → PlanTree → (point : List ℕ) → (points : List (List ℕ)) → Bool
covers_above costing threshold p point points =
    list_any (λ other. is_at_or_below point other && covers_at costing threshold p other) points

-- the learned point by which a member is skipped, if it is: its plan covers no point of its contour's frontier at or above it
abbrev pub skip_by : CostingTree → (threshold : ℕ) → Member → (learned : Option (List ℕ)) → Option (List ℕ)
skip_by costing threshold member None = None
skip_by costing threshold member (Some point) =
    if covers_above costing threshold member.plan point (frontier costing member.cost) then None else Some point

abbrev pub skip_point : CostingTree → (threshold : ℕ) → (exhausted : List Member) → Member → Option (List ℕ)
skip_point costing threshold exhausted member = skip_by costing threshold member (learned_point costing exhausted)

abbrev pub is_skipped : CostingTree → (threshold : ℕ) → (exhausted : List Member) → Member → Bool
is_skipped costing threshold exhausted member = is_some (skip_point costing threshold exhausted member)

-- the end of a run over the executions under budgets that aren't skipped, where all of them are exhausted. The last execution,
-- without a budget, is never skipped
abbrev pub learned_end : BouquetTree → (work : PlanTree → ℕ) → RunEnd
learned_end bouquet work = end_of work (without_skipped (is_skipped bouquet.costing bouquet.threshold) [] (schedule bouquet)) (final_plan bouquet)

-- the skips among some members, where these were exhausted before, up to the one that is done
abbrev pub skips_among : CostingTree → (threshold : ℕ) → (work : PlanTree → ℕ) → (exhausted : List Member) → List Member → List Skip
skips_among costing threshold work exhausted [] = []
skips_among costing threshold work exhausted (member ∷ more) =
    option_map_or (λ point. record { contour = member.contour; plan = member.place; point = point } ∷ skips_among costing threshold work exhausted more) (skip_point costing threshold exhausted member)
    (if nat_le (work member.plan) member.budget then [] else skips_among costing threshold work (exhausted ++ member ∷ []) more)

-- the skips of a run, in order
abbrev pub skips_of : BouquetTree → (work : PlanTree → ℕ) → List Skip
skips_of bouquet work = skips_among bouquet.costing bouquet.threshold work [] (schedule bouquet)

-- a skip is of a plan of the bouquet, by a point of its grid
pub record IsSkipOf (bouquet : BouquetTree) (skip : Skip) : Type 0 where
  pub contour : 1 ≤ skip.contour
  pub place : 1 ≤ skip.plan
  pub there : IsSomeAnd (slice_get bouquet.contours (skip.contour - 1)) (λ contour. skip.plan ≤ length contour.plans)
  pub point : IsPoint bouquet.costing.grid skip.point
