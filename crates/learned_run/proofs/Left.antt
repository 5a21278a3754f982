-- The points that exhausted executions leave are closed upwards.
use Rattle.std.proofs.Common.{◌≡◌, ◌∙◌, ℕ, ◌<◌, ◌++◌, List, [], ◌∷◌, refl, ap, arith}
use Rattle.std.specs.Prelude.{true, ◌&&◌, nat_lt}
use Rattle.std.specs.List.{list_all}
use Rattle.std.proofs.Math.Bool.{and-true}
use Rattle.std.proofs.lemmas.Bool.{and_from, and_parts, lt-ltb, ltb-true}
use Rattle.std.proofs.lemmas.List.Folds.{list_all-append}
use Rattle.std.proofs.lemmas.List.Elements.{All-contains}
use Rattle.ess_grid.specs.Points.{IsGrid, IsPoint, points_of}
use Rattle.ess_grid.specs.Order.{PointBelow}
use Rattle.ess_grid.proofs.GridPoints.{All-points_of}
use Rattle.plan_tree.proofs.Members.{IsIn, contained-in, in-filter, of-filter}
use Rattle.cost_model.specs.Costing.{CostingTree}
use Rattle.cost_model.specs.Costs.{cost_of}
use Rattle.cost_model.proofs.Monotone.{cost-le}
use Rattle.cost_model.proofs.Frontiers.{in-points}
use Rattle.bouquet_type.specs.Schedule.{Member}
use Rattle.learned_run.specs.Learning.{is_left, points_left}

pub left-above : (costing : CostingTree) (exhausted : List Member) (point other : List ℕ) → PointBelow point other → is_left costing exhausted point ≡ true → is_left costing exhausted other ≡ true
left-above costing [] point other below left = refl
left-above costing (member ∷ more) point other below left =
    let parts = and_parts _ _ left in
    let past : member.budget < cost_of costing member.plan point = ltb-true _ _ parts.0 in
    let cost = cost-le costing member.plan point other below in
    and_from _ _ (lt-ltb _ _ (omega (arith, past, cost))) (left-above costing more point other below parts.1)

-- one execution more
left-more : (costing : CostingTree) (exhausted : List Member) (member : Member) (point : List ℕ)
    → is_left costing (exhausted ++ member ∷ []) point ≡ (is_left costing exhausted point && nat_lt member.budget (cost_of costing member.plan point))
left-more costing exhausted member point =
    let test : Member → _ = λ (one : Member). nat_lt one.budget (cost_of costing one.plan point) in
    list_all-append test exhausted (member ∷ []) ∙ ap (λ passes. list_all test exhausted && passes) (and-true (test member))

pub left-still : (costing : CostingTree) (exhausted : List Member) (member : Member) (point : List ℕ) → is_left costing exhausted point ≡ true
    → member.budget < cost_of costing member.plan point → is_left costing (exhausted ++ member ∷ []) point ≡ true
left-still costing exhausted member point left past = left-more costing exhausted member point ∙ and_from _ _ left (lt-ltb _ _ past)

pub left-before : (costing : CostingTree) (exhausted : List Member) (member : Member) (point : List ℕ) → is_left costing (exhausted ++ member ∷ []) point ≡ true
    → (is_left costing exhausted point ≡ true) × (member.budget < cost_of costing member.plan point)
left-before costing exhausted member point left =
    let parts = and_parts _ _ (rw left-more at left) in
    (parts.0, ltb-true _ _ parts.1)

-- they are points of the grid
pub in-left : (costing : CostingTree) (exhausted : List Member) (point : List ℕ) → IsGrid costing.grid → IsPoint costing.grid point → is_left costing exhausted point ≡ true
    → IsIn point (points_left costing exhausted)
unfolding points_left
in-left costing exhausted point is_grid is_point left =
    in-filter (is_left costing exhausted) point (points_of costing.grid) (in-points costing.grid point is_grid is_point) left

pub of-left : (costing : CostingTree) (exhausted : List Member) (point : List ℕ) → IsGrid costing.grid → IsIn point (points_left costing exhausted)
    → IsPoint costing.grid point × (is_left costing exhausted point ≡ true)
unfolding points_left
of-left costing exhausted point is_grid is =
    let among = of-filter (is_left costing exhausted) point (points_of costing.grid) is in
    (All-contains (IsPoint costing.grid) (points_of costing.grid) point (All-points_of costing.grid is_grid) (contained-in point (points_of costing.grid) among.0), among.1)
