-- What the turns of greedy reduction keep: a table of who covers what, and the places of the points that no plan covers yet.
use Rattle.std.specs.Prelude.{◌≡◌, ℕ, ◌+◌, ◌*◌, ◌<◌, ◌≤◌, All, Bool, false, List, count_by, if◌then◌else◌, length, map, slice_index_or}
use Rattle.std.specs.List.{flat_map}
use Rattle.std.specs.Ordering.{nat_cmp, ordering_then}
use Rattle.std.specs.declared.cmp.Ordering.{Ordering}
use Rattle.plan_tree.specs.declared.plan.Plan.{Plan}
use Rattle.plan_tree.specs.Plans.{PlanTree, plan_tree}
use Rattle.plan_tree.specs.Order.{plan_order_of}
use Rattle.cost_model.specs.Costing.{CostingTree}
use Rattle.cost_model.specs.Greedy.{covers_at, greedy_turns}
use Rattle.plan_space.specs.Parts.{nth_plan}

-- the candidate of this number, from 0
abbrev pub plan_at : List Plan → (number : ℕ) → PlanTree
plan_at plans number = nth_plan (map plan_tree plans) number

-- which plans cover a point
abbrev pub cover_row : CostingTree → (threshold : ℕ) → List PlanTree → (point : List ℕ) → List Bool
cover_row costing threshold plans point = map (λ p. covers_at costing threshold p point) plans

-- a row for each point
abbrev pub IsCoverTable : CostingTree → (threshold : ℕ) → (points : List (List ℕ)) → List PlanTree → List Bool → Type 0
IsCoverTable costing threshold points plans table = table ≡ flat_map (cover_row costing threshold plans) points

-- what the table says of a candidate and the point at a place
abbrev pub is_marked : (table : List Bool) → (width candidate place : ℕ) → Bool
is_marked table width candidate place = slice_index_or table (place * width + candidate) false

-- the tests of the point at a place
pub record IsCoverRow (table : List Bool) (width place : ℕ) (row : List Bool) : Type 0 where
  pub long : length row ≡ width
  pub tests : (candidate : ℕ) → candidate < width → slice_index_or row candidate false ≡ is_marked table width candidate place

-- these are the counts, one more for each candidate that the row of a point marks
abbrev pub AreMore : (row : List Bool) → (counts more : List ℕ) → Type 0
AreMore row counts more =
    (candidate : ℕ) → candidate < length row
    → slice_index_or more candidate 0 ≡ slice_index_or counts candidate 0 + (if slice_index_or row candidate false then 1 else 0)

-- the point of this row is among those that are counted: each candidate that the row marks has a count
abbrev pub IsCoverCounted : (row : List Bool) → (counts : List ℕ) → Type 0
IsCoverCounted row counts =
    (candidate : ℕ) → candidate < length row → (if slice_index_or row candidate false then 1 else 0) ≤ slice_index_or counts candidate 0

-- each candidate covers so many of the open points
abbrev pub AreCoverCounts : (table : List Bool) → (uncovered counts : List ℕ) → Type 0
AreCoverCounts table uncovered counts =
    (candidate : ℕ) → candidate < length counts
    → slice_index_or counts candidate 0 ≡ count_by (is_marked table (length counts) candidate) uncovered

-- the numbers of the candidates that turns take for so many points, where the table says who covers what
pub record AreTaken (count : ℕ) (plans : List Plan) (table : List Bool) (taken : List ℕ) : Type 0 where
  pub within : All (λ number. number < length plans) taken
  pub greedy : (costing : CostingTree) (threshold : ℕ) (points : List (List ℕ)) → length points ≡ count → IsCoverTable costing threshold points (map plan_tree plans) table
      → map (plan_at plans) taken ≡ greedy_turns costing threshold (map plan_tree plans) count points

-- the order of two plans that cover so many points
abbrev pub cover_order : ℕ → PlanTree → ℕ → PlanTree → Ordering
cover_order count p other_count other = ordering_then (nat_cmp other_count count) (plan_order_of p other)

-- the order of two candidates
abbrev pub turn_order : List Plan → List Bool → (uncovered : List ℕ) → ℕ → ℕ → Ordering
turn_order plans table uncovered candidate other =
    let count = λ (number : ℕ). count_by (is_marked table (length plans) number) uncovered in
    cover_order (count candidate) (plan_at plans candidate) (count other) (plan_at plans other)
