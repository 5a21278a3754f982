-- Whether some plan is within a budget at a point, and the first point of a frontier at which none is.
use Rattle.std.proofs.Common.{◌≡◌, ◌∙◌, inl, inr, ℕ, ◌<◌, ◌≤◌, List, [], ◌∷◌, Contains, length, map, get_or, nat_le, refl, ap, sym, arith}
use Rattle.std.proofs.lemmas.Grind.{common_steps}
use Rattle.std.specs.Prelude.{All, Bool, true, false, not, Some, None, find}
use Rattle.std.proofs.lemmas.Bool.{cases_Bool, cases_lt, not-true, not-false, leb-true, le-leb}
use Rattle.std.proofs.lemmas.List.{length-map, get_or-map}
use Rattle.std.proofs.lemmas.List.Folds.{list_any_at}
use Rattle.std.proofs.lemmas.List.Elements.{All-contains}
use Rattle.ess_grid.specs.Points.{IsGrid, IsPoint, points_of}
use Rattle.ess_grid.proofs.GridPoints.{All-points_of}
use Rattle.plan_tree.specs.declared.plan.Plan.{Plan}
use Rattle.plan_tree.specs.Plans.{PlanTree, plan_tree}
use Rattle.plan_tree.proofs.Members.{IsIn, in-contained, contained-in, of-any, of-filter}
use Rattle.cost_model.specs.Costing.{CostingTree}
use Rattle.cost_model.specs.Costs.{cost_of}
use Rattle.cost_model.specs.Frontier.{is_on_frontier, frontier}
use Rattle.bouquet_type.specs.Trees.{ContourTree}
use Rattle.bouquet_type.specs.Budgets.{budget_of}
use Rattle.bouquet_type.specs.Sound.{FitsAt}
use Rattle.bouquet_check.specs.Verdicts.{fits_at, uncovered_point}

-- the test on plans
abbrev pub is_within : CostingTree → (budget : ℕ) → (point : List ℕ) → PlanTree → Bool
is_within costing budget point p = nat_le (cost_of costing p point) budget

-- a plan that is within the budget settles it
pub fits-by : (costing : CostingTree) (budget place : ℕ) (plans : List PlanTree) (d : PlanTree) (point : List ℕ) → place < length plans
    → cost_of costing (get_or plans place d) point ≤ budget → fits_at costing budget plans point ≡ true
fits-by costing budget place plans d point there within =
    list_any_at (is_within costing budget point) plans place d there (le-leb _ _ within)

pub fits-read : (costing : CostingTree) (budget place : ℕ) (plans : List Plan) (p : Plan) (point : List ℕ) → place < length plans → p ≡ get_or plans place p
    → cost_of costing (plan_tree p) point ≤ budget → fits_at costing budget (map plan_tree plans) point ≡ true
fits-read costing budget place plans p point there is within =
    let read : get_or (map plan_tree plans) place (plan_tree p) ≡ plan_tree p = get_or-map plan_tree plans place p (plan_tree p) there ∙ ap plan_tree (sym is) in
    fits-by costing budget place (map plan_tree plans) (plan_tree p) point (omega (arith, there, length-map plans plan_tree))
    (omega (arith, within, ap (λ q. cost_of costing q point) read))

pub fits-true : (costing : CostingTree) (threshold : ℕ) (point : List ℕ) (contour : ContourTree)
    → fits_at costing (budget_of threshold contour.cost) contour.plans point ≡ true → FitsAt costing threshold point contour
fits-true costing threshold point contour fits = grind (arith, common_steps, of-any, contained-in, leb-true)

pub fits-from : (costing : CostingTree) (threshold : ℕ) (point : List ℕ) (contour : ContourTree)
    → FitsAt costing threshold point contour → fits_at costing (budget_of threshold contour.cost) contour.plans point ≡ true
fits-from costing threshold point contour (p, (place, there, at), within) =
    grind (arith, common_steps, list_any_at, le-leb)

-- where none is, each plan costs more
pub none-fits : (costing : CostingTree) (budget : ℕ) (plans : List PlanTree) (point : List ℕ) → fits_at costing budget plans point ≡ false
    → All (λ p. budget < cost_of costing p point) plans
none-fits costing budget plans point none = grind (arith, common_steps, cases_lt, get_or, fits-by)

-- the first item that passes a test is one, and passes
found-passes : {X : Type 0} (test : X → Bool) (x : X) (xs : List X) → find test xs ≡ Some x → IsIn x xs × (test x ≡ true)
found-passes test x [] found = absurd cc
found-passes test x (y ∷ ys) found =
    elim (cases_Bool (test y)) [
      | inl passes ↦
          let here : Some y ≡ Some x = rw passes at found in
          let same : y ≡ x = cc in
          (inl same, ap test (sym same) ∙ passes)
      | inr fails ↦ let more = found-passes test x ys (rw fails at found) in (inr more.0, more.1)
    ]

-- none is found exactly where each fails
none-passes : {X : Type 0} (test : X → Bool) (x : X) (xs : List X) → find test xs ≡ None → IsIn x xs → test x ≡ false
none-passes test x [] none is = absurd is
none-passes test x (y ∷ ys) none is =
    elim (cases_Bool (test y)) [
      | inl passes ↦ let here : Some y ≡ None = rw passes at none in absurd cc
      | inr fails ↦ elim is [
        | inl same ↦ ap test (sym same) ∙ fails
        | inr more ↦ none-passes test x ys (rw fails at none) more
      ]
    ]

none-found : {X : Type 0} (test : X → Bool) (xs : List X) → ((x : X) → IsIn x xs → test x ≡ false) → find test xs ≡ None
none-found test [] fail = refl
none-found test (y ∷ ys) fail = rw (fail y (inl refl)) (none-found test ys (λ x is. fail x (inr is)))

-- the points of a frontier are points of the grid
pub frontier-point : (costing : CostingTree) (cost : ℕ) (point : List ℕ) → IsGrid costing.grid → IsIn point (frontier costing cost) → IsPoint costing.grid point
unfolding frontier
frontier-point costing cost point is_grid is =
    let among = of-filter (is_on_frontier costing cost) point (points_of costing.grid) is in
    All-contains (IsPoint costing.grid) (points_of costing.grid) point (All-points_of costing.grid is_grid) (contained-in point (points_of costing.grid) among.0)

-- at a point that is told none is within the budget
pub uncovered-told : (costing : CostingTree) (cost budget : ℕ) (plans : List PlanTree) (point : List ℕ)
    → uncovered_point costing cost budget plans ≡ Some point → IsIn point (frontier costing cost) × (fits_at costing budget plans point ≡ false)
uncovered-told costing cost budget plans point told =
    let found = found-passes (λ other. not (fits_at costing budget plans other)) point (frontier costing cost) told in
    (found.0, not-true (fits_at costing budget plans point) found.1)

-- where no point is told, some plan is at each point of the frontier
pub covered-all : (costing : CostingTree) (cost budget : ℕ) (plans : List PlanTree) → uncovered_point costing cost budget plans ≡ None
    → (point : List ℕ) → Contains (frontier costing cost) point → fits_at costing budget plans point ≡ true
covered-all costing cost budget plans none point is =
    not-false (fits_at costing budget plans point)
    (none-passes (λ other. not (fits_at costing budget plans other)) point (frontier costing cost) none (in-contained point (frontier costing cost) is))

pub all-covered : (costing : CostingTree) (cost budget : ℕ) (plans : List PlanTree)
    → ((point : List ℕ) → IsIn point (frontier costing cost) → fits_at costing budget plans point ≡ true) → uncovered_point costing cost budget plans ≡ None
all-covered costing cost budget plans fit =
    none-found (λ other. not (fits_at costing budget plans other)) (frontier costing cost) (λ point is. ap not (fit point is))
