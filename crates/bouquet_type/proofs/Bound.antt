-- The bound on the work of a run.
use Rattle.std.proofs.Common.{◌≡◌, ◌∙◌, inl, inr, ℕ, ◌+◌, ◌*◌, ◌<◌, ◌≤◌, ◌++◌, Bool, List, [], ◌∷◌, length, map, true, false, nat_le, if◌then◌else◌, refl, ap, sym, subst, arith}
use Rattle.std.proofs.lemmas.Grind.{common_steps}
use Rattle.std.specs.Prelude.{All, Contains}
use Rattle.std.proofs.Math.Nat.{mul-le-mul_left}
use Rattle.std.proofs.lemmas.Nat.{mul-le}
use Rattle.std.proofs.lemmas.Bool.{le-leb, lt-leb, cases_Bool, cases_lt, false≢true}
use Rattle.std.proofs.lemmas.List.Elements.{All-nil, All-cons, All-append, All-head, All-tail, All-contains, All-weaker}
use Rattle.ess_grid.specs.Points.{IsPoint, bottom_of, top_of}
use Rattle.ess_grid.proofs.GridPoints.{PointBelow-bottom, PointBelow-top}
use Rattle.query_block.specs.Blocks.{BlockTree}
use Rattle.plan_tree.specs.Plans.{PlanTree, Scan, IndexScan, Nest, Hash, Merge, IndexLoop}
use Rattle.plan_tree.specs.Enumerated.{IsPlan}
use Rattle.plan_tree.specs.AllPlans.{plans_of}
use Rattle.plan_tree.proofs.Members.{IsIn, in-contained}
use Rattle.plan_tree.proofs.Enumerated.{in-plans}
use Rattle.cost_model.specs.Costing.{CostingTree}
use Rattle.cost_model.specs.Costs.{cost_of}
use Rattle.cost_model.specs.Optimal.{least_of, optimal_cost}
use Rattle.cost_model.proofs.Monotone.{optimal-le}
use Rattle.cost_model.proofs.Least.{optimal-least}
use Rattle.bouquet_type.specs.Trees.{BouquetTree, ContourTree}
use Rattle.bouquet_type.specs.Budgets.{budget_of, most_plans}
use Rattle.bouquet_type.specs.Sound.{AreDoubled, FitsAt, first_cost, last_cost}
use Rattle.bouquet_type.specs.Schedule.{Member, members_on, members_from, schedule, final_plan}
use Rattle.bouquet_type.specs.Runs.{CostPremise, end_of, total_work}
use Rattle.bouquet_type.specs.Skipping.{AreExhausted, without_skipped}
use Rattle.bouquet_type.specs.Bounded.{MeetsBound}

-- an execution of a plan of a block that was exhausted
abbrev WasExhausted : BlockTree → (work : PlanTree → ℕ) → Member → Type 0
WasExhausted block work member = IsPlan block member.plan × (member.budget < work member.plan)

exhausted-more : (block : BlockTree) (work : PlanTree → ℕ) (before : List Member) (member : Member) → AreExhausted block work before → WasExhausted block work member
    → AreExhausted block work (before ++ member ∷ [])
exhausted-more block work before member are is =
    All-append (WasExhausted block work) before (member ∷ []) are (All-cons (WasExhausted block work) member [] is (All-nil (WasExhausted block work)))

-- a run whose first plan is done works what that plan does; else its budget, and what the run works behind it
total-done : (work : PlanTree → ℕ) (member : Member) (more : List Member) (final : PlanTree) → work member.plan ≤ member.budget
    → (end_of work (member ∷ more) final).total ≡ work member.plan
total-done work member more final fits = let within : nat_le (work member.plan) member.budget ≡ true = le-leb _ _ fits in rw within refl

total-exhausted : (work : PlanTree → ℕ) (member : Member) (more : List Member) (final : PlanTree) → member.budget < work member.plan
    → (end_of work (member ∷ more) final).total ≡ member.budget + (end_of work more final).total
total-exhausted work member more final past = let over : nat_le (work member.plan) member.budget ≡ false = lt-leb _ _ past in rw over refl

module _ (block : BlockTree) (work : PlanTree → ℕ) (skip : List Member → Member → Bool) (final : PlanTree) where
  -- the work of a run over those of some members that aren't skipped, where these were exhausted before
  abbrev total_of : (before members : List Member) → ℕ
  total_of before members = (end_of work (without_skipped skip before members) final).total

  abbrev total_if : (skipped : Bool) → (before : List Member) → Member → (more : List Member) → ℕ
  total_if skipped before member more =
      (end_of work (if skipped then without_skipped skip before more else member ∷ without_skipped skip (before ++ member ∷ []) more) final).total

  -- one that is skipped adds nothing; else the run ends with it, or goes on behind it
  without-first : (before : List Member) (member : Member) (more : List Member) → skip before member ≡ true → total_of before (member ∷ more) ≡ total_of before more
  without-first before member more skipped = ap (λ skipped. total_if skipped before member more) skipped

  first-done : (before : List Member) (member : Member) (more : List Member) → skip before member ≡ false → work member.plan ≤ member.budget
      → total_of before (member ∷ more) ≡ work member.plan
  first-done before member more tried fits =
      ap (λ skipped. total_if skipped before member more) tried ∙ total-done work member (without_skipped skip (before ++ member ∷ []) more) final fits

  first-exhausted : (before : List Member) (member : Member) (more : List Member) → skip before member ≡ false → member.budget < work member.plan
      → total_of before (member ∷ more) ≡ member.budget + total_of (before ++ member ∷ []) more
  first-exhausted before member more tried past =
      ap (λ skipped. total_if skipped before member more) tried ∙ total-exhausted work member (without_skipped skip (before ++ member ∷ []) more) final past

  -- a contour's plans spend at most their budgets, and the run goes on behind them
  total-passes : (budget number cost place : ℕ) (plans : List PlanTree) (rest before : List Member) → All (IsPlan block) plans → AreExhausted block work before
      → (after : List Member) × AreExhausted block work after × (total_of before (members_on budget number cost place plans ++ rest) ≤ length plans * budget + total_of after rest)
  total-passes budget number cost place [] rest before are exhausted = (before, exhausted, omega arith)
  total-passes budget number cost place (p ∷ plans) rest before are exhausted =
      let member : Member = record { plan = p; budget = budget; contour = number; place = place; cost = cost } in
      let others = All-tail (IsPlan block) p plans are in
      elim (cases_Bool (skip before member)) [
        | inl skipped ↦
            let more = total-passes budget number cost (place + 1) plans rest before others exhausted in
            let same = without-first before member (members_on budget number cost (place + 1) plans ++ rest) skipped in
            (more.0, more.1, omega (arith, more.2, same))
        | inr tried ↦
            elim (cases_lt budget (work p)) [
              | inl past ↦
                  let here = exhausted-more block work before member exhausted (All-head (IsPlan block) p plans are, past) in
                  let more = total-passes budget number cost (place + 1) plans rest (before ++ member ∷ []) others here in
                  let spent = first-exhausted before member (members_on budget number cost (place + 1) plans ++ rest) tried past in
                  (more.0, more.1, omega (arith, more.2, spent))
              | inr fits ↦
                  let spent = first-done before member (members_on budget number cost (place + 1) plans ++ rest) tried fits in
                  (before, exhausted, omega (arith, fits, spent))
            ]
      ]

  -- the plan is never skipped on a contour of this cost
  abbrev pub IsTried : (cost : ℕ) → PlanTree → Type 0
  IsTried cost p = (before : List Member) (member : Member) → AreExhausted block work before → member.plan ≡ p → member.cost ≡ cost → skip before member ≡ false

  -- nor does it go on where one of them that isn't skipped is within the budget
  total-fits : (budget number cost place : ℕ) (p : PlanTree) (plans : List PlanTree) (rest before : List Member) → All (IsPlan block) plans → AreExhausted block work before
      → IsIn p plans → work p ≤ budget → IsTried cost p → total_of before (members_on budget number cost place plans ++ rest) ≤ length plans * budget
  total-fits budget number cost place p [] rest before are exhausted is fits tried = absurd is
  total-fits budget number cost place p (q ∷ plans) rest before are exhausted is fits tried =
      let member : Member = record { plan = q; budget = budget; contour = number; place = place; cost = cost } in
      let others = All-tail (IsPlan block) q plans are in
      elim (cases_Bool (skip before member)) [
        | inl skipped ↦
            elim is [
              | inl same ↦ absurd (false≢true (sym (tried before member exhausted same refl) ∙ skipped))
              | inr among ↦
                  let more = total-fits budget number cost (place + 1) p plans rest before others exhausted among fits tried in
                  omega (arith, more, without-first before member (members_on budget number cost (place + 1) plans ++ rest) skipped)
            ]
        | inr here ↦
            elim (cases_lt budget (work q)) [
              | inl past ↦
                  elim is [
                    | inl same ↦ absurd (omega (arith, ap work same, past, fits))
                    | inr among ↦
                        let passed = exhausted-more block work before member exhausted (All-head (IsPlan block) q plans are, past) in
                        let more = total-fits budget number cost (place + 1) p plans rest (before ++ member ∷ []) others passed among fits tried in
                        omega (arith, more, first-exhausted before member (members_on budget number cost (place + 1) plans ++ rest) here past)
                  ]
              | inr short ↦
                  omega (arith, short, first-done before member (members_on budget number cost (place + 1) plans ++ rest) here short)
            ]
      ]

-- what a contour of at most so many plans spends
spends : (threshold cost count most : ℕ) → count ≤ most → 100 * (count * budget_of threshold cost) ≤ most * (100 + threshold) * cost
spends threshold cost count most few =
    let budget = budget_of threshold cost in
    let floor : 100 * budget ≤ cost * (100 + threshold) = omega arith in
    let all : count * budget ≤ most * budget = mul-le count budget most budget few (omega arith) in
    let each : most * (100 * budget) ≤ most * (cost * (100 + threshold)) = mul-le-mul_left most floor in
    omega (arith, all, each)

wins : (rate cost optimal total : ℕ) → total ≤ rate * cost → cost ≤ 2 * optimal → total + rate * cost ≤ 4 * rate * optimal
wins rate cost optimal total spent near =
    let twice : rate * cost ≤ rate * (2 * optimal) = mul-le-mul_left rate near in
    omega (arith, spent, twice)

goes-on : (rate cost next optimal here rest : ℕ) → here ≤ rate * cost → next ≡ 2 * cost → rest + rate * next ≤ 4 * rate * optimal
    → here + rest + rate * cost ≤ 4 * rate * optimal
goes-on rate cost next optimal here rest spent doubled more = grind (arith, common_steps)

-- a plan of the contour is within the contour's budget at a point, and the rule never skips it there
abbrev pub FitsUnskipped : CostingTree → (threshold : ℕ) → (work : PlanTree → ℕ) → (skip : List Member → Member → Bool) → (point : List ℕ) → ContourTree → Type 0
FitsUnskipped costing threshold work skip point contour =
    (p : PlanTree) × Contains contour.plans p × (cost_of costing p point ≤ budget_of threshold contour.cost)
    × ((before : List Member) (member : Member) → AreExhausted costing.block work before → member.plan ≡ p → member.cost ≡ contour.cost → skip before member ≡ false)

abbrev HasPlans : CostingTree → ContourTree → Type 0
HasPlans costing contour = All (IsPlan costing.block) contour.plans

abbrev AreWithin : CostingTree → (point : List ℕ) → (work : PlanTree → ℕ) → Type 0
AreWithin costing point work = (p : PlanTree) → IsPlan costing.block p → work p ≤ cost_of costing p point

module _ (costing : CostingTree) (threshold : ℕ) (point : List ℕ) (work : PlanTree → ℕ) (skip : List Member → Member → Bool) (final : PlanTree) (optimal most : ℕ) where
  -- some plan of the contour fits where it costs at least the optimal cost
  abbrev IsCovered : ContourTree → Type 0
  IsCovered contour = optimal ≤ contour.cost → FitsUnskipped costing threshold work skip point contour

  abbrev total_from : (number : ℕ) → (before : List Member) → List ContourTree → ℕ
  total_from number before contours = total_of costing.block work skip final before (members_from threshold number contours)

  -- a contour that costs at least the optimal cost ends the run
  ends-here : (number : ℕ) (contour : ContourTree) (more : List ContourTree) (before : List Member) → AreWithin costing point work → HasPlans costing contour
      → AreExhausted costing.block work before → FitsUnskipped costing threshold work skip point contour
      → total_from number before (contour ∷ more) ≤ length contour.plans * budget_of threshold contour.cost
  ends-here number contour more before within plans exhausted fits =
      let p = fits.0 in
      let plan : IsPlan costing.block p = All-contains (IsPlan costing.block) contour.plans p plans fits.1 in
      let short : work p ≤ budget_of threshold contour.cost = omega (arith, within p plan, fits.2) in
      total-fits costing.block work skip final (budget_of threshold contour.cost) number contour.cost 1 p contour.plans (members_from threshold (number + 1) more) before
      plans exhausted (in-contained p contour.plans fits.1) short fits.3

  bound-from : (number : ℕ) (contours : List ContourTree) (before : List Member)
      → AreWithin costing point work → 1 ≤ optimal → AreDoubled contours → first_cost contours ≤ 2 * optimal → optimal ≤ last_cost contours
      → All IsCovered contours → All (HasPlans costing) contours → most_plans contours ≤ most → AreExhausted costing.block work before
      → 100 * total_from number before contours + most * (100 + threshold) * first_cost contours ≤ 4 * (most * (100 + threshold)) * optimal
  bound-from number [] before within some doubled first last covered plans few exhausted = absurd (omega (arith, some, last))
  bound-from number (contour ∷ []) before within some doubled first last covered plans few exhausted =
      let fits = All-head IsCovered contour [] covered last in
      let here = All-head (HasPlans costing) contour [] plans in
      let total = ends-here number contour [] before within here exhausted fits in
      let spent = spends threshold contour.cost (length contour.plans) most (omega (arith, few)) in
      wins (most * (100 + threshold)) contour.cost optimal _ (omega (arith, total, spent)) first
  bound-from number (contour ∷ next ∷ more) before within some doubled first last covered plans few exhausted =
      let here = All-head (HasPlans costing) contour (next ∷ more) plans in
      let rest = members_from threshold (number + 1) (next ∷ more) in
      let spent = spends threshold contour.cost (length contour.plans) most (omega (arith, few)) in
      elim (cases_lt contour.cost optimal) [
        | inl less ↦
            let passes = total-passes costing.block work skip final (budget_of threshold contour.cost) number contour.cost 1 contour.plans rest before here exhausted in
            let later =
            bound-from
            (number + 1)
            (next ∷ more)
            passes.0
            within
            some
            doubled.1
            (omega (arith, doubled.0, less))
            last
            (All-tail IsCovered contour (next ∷ more) covered)
            (All-tail (HasPlans costing) contour (next ∷ more) plans)
            (omega (arith, few))
            passes.1 in
            let sum = goes-on (most * (100 + threshold)) contour.cost next.cost optimal _ _ spent doubled.0 later in
            omega (arith, passes.2, sum)
        | inr enough ↦
            let fits = All-head IsCovered contour (next ∷ more) covered enough in
            let total = ends-here number contour (next ∷ more) before within here exhausted fits in
            wins (most * (100 + threshold)) contour.cost optimal _ (omega (arith, total, spent)) first
      ]

-- every cost is some, and so is the optimal one
cost-some : (costing : CostingTree) (p : PlanTree) (point : List ℕ) → 1 ≤ cost_of costing p point
cost-some costing (Scan relation) point = omega arith
cost-some costing (IndexScan relation column) point = omega arith
cost-some costing (Nest left right) point = omega (arith, cost-some costing left point)
cost-some costing (Hash edge left right) point = omega (arith, cost-some costing left point)
cost-some costing (Merge edge left right) point = omega (arith, cost-some costing left point)
cost-some costing (IndexLoop edge left relation) point = omega (arith, cost-some costing left point)

least-some : (cost : PlanTree → ℕ) (p : PlanTree) (plans : List PlanTree) → IsIn p plans → ((q : PlanTree) → 1 ≤ cost q) → 1 ≤ least_of (map cost plans)
least-some cost p [] is some = absurd is
least-some cost p (q ∷ []) is some = some q
least-some cost p (q ∷ other ∷ more) is some = omega (arith, some q, least-some cost other (other ∷ more) (inl refl) some)

all-of : (total optimal work most threshold a b : ℕ) → 100 * total ≤ 4 * (most * (100 + threshold)) * optimal → b * optimal ≤ a * work
    → 100 * b * total ≤ 4 * a * (100 + threshold) * most * work
all-of total optimal work most threshold a b spent near =
    let times : b * (100 * total) ≤ b * (4 * (most * (100 + threshold)) * optimal) = mul-le-mul_left b spent in
    let rate = 4 * (most * (100 + threshold)) in
    let scaled : rate * (b * optimal) ≤ rate * (a * work) = mul-le-mul_left rate near in
    omega (arith, times, scaled)

-- a run that never skips a plan that fits is within the bound, whatever else it skips
pub bound-skipping : (bouquet : BouquetTree) (work : PlanTree → ℕ) (skip : List Member → Member → Bool) (point : List ℕ) (a b : ℕ) (p : PlanTree)
    → All (λ contour. All (IsPlan bouquet.costing.block) contour.plans) bouquet.contours
    → IsPoint bouquet.costing.grid point → CostPremise bouquet.costing point a b work → IsPlan bouquet.costing.block p
    → first_cost bouquet.contours ≤ optimal_cost bouquet.costing (bottom_of bouquet.costing.grid) → AreDoubled bouquet.contours
    → optimal_cost bouquet.costing (top_of bouquet.costing.grid) ≤ last_cost bouquet.contours
    → All (λ contour. optimal_cost bouquet.costing point ≤ contour.cost → FitsUnskipped bouquet.costing bouquet.threshold work skip point contour) bouquet.contours
    → 100 * b * (end_of work (without_skipped skip [] (schedule bouquet)) (final_plan bouquet)).total ≤ 4 * a * (100 + bouquet.threshold) * most_plans bouquet.contours * work p
bound-skipping bouquet work skip point a b p plans is_point premise plan first doubled last covered =
    let costing = bouquet.costing in
    let optimal = optimal_cost costing point in
    let most = most_plans bouquet.contours in
    let bottom = optimal-le costing (bottom_of costing.grid) point (PointBelow-bottom costing.grid point is_point) in
    let top = optimal-le costing point (top_of costing.grid) (PointBelow-top costing.grid point is_point) in
    let some = least-some (λ q. cost_of costing q point) p (plans_of costing.block) (in-plans costing.block p plan) (λ q. cost-some costing q point) in
    let total =
    bound-from
    costing
    bouquet.threshold
    point
    work
    skip
    (final_plan bouquet)
    optimal
    most
    1
    bouquet.contours
    []
    premise.within
    some
    doubled
    (omega (arith, first, bottom))
    (omega (arith, top, last))
    covered
    plans
    (omega arith)
    (All-nil (WasExhausted costing.block work)) in
    let near : b * optimal ≤ a * work p = omega (arith, mul-le-mul_left b (optimal-least costing p point plan), premise.near p plan) in
    all-of (end_of work (without_skipped skip [] (schedule bouquet)) (final_plan bouquet)).total optimal (work p) most bouquet.threshold a b (omega (arith, total)) near

-- a rule that never skips leaves all
abbrev never : List Member → Member → Bool
never before member = false

none-skipped : (before members : List Member) → without_skipped never before members ≡ members
none-skipped before [] = refl
none-skipped before (member ∷ more) = ap (λ others. member ∷ others) (none-skipped (before ++ member ∷ []) more)

-- what fits isn't skipped then
never-skipped : (costing : CostingTree) (threshold : ℕ) (work : PlanTree → ℕ) (point : List ℕ) (contour : ContourTree) → FitsAt costing threshold point contour
    → FitsUnskipped costing threshold work never point contour
never-skipped costing threshold work point contour fits = (fits.0, fits.1, fits.2, λ before member exhausted plan cost. refl)

pub bound : (bouquet : BouquetTree) (work : PlanTree → ℕ)
    → All (λ contour. All (IsPlan bouquet.costing.block) contour.plans) bouquet.contours → MeetsBound bouquet work (total_work bouquet work)
bound bouquet work plans = λ sound point a b p is_point premise plan.
    let costing = bouquet.costing in
    let threshold = bouquet.threshold in
    let optimal = optimal_cost costing point in
    let covered =
    All-weaker
    (λ (contour : ContourTree). optimal ≤ contour.cost → FitsAt costing threshold point contour)
    (λ (contour : ContourTree). optimal ≤ contour.cost → FitsUnskipped costing threshold work never point contour)
    (λ (contour : ContourTree) (fits : optimal ≤ contour.cost → FitsAt costing threshold point contour) (enough : optimal ≤ contour.cost).
    never-skipped costing threshold work point contour (fits enough))
    bouquet.contours
    (sound.covered point is_point) in
    let skipped = bound-skipping bouquet work never point a b p plans is_point premise plan sound.first sound.doubled sound.last covered in
    subst (λ (members : List Member).
    100 * b * (end_of work members (final_plan bouquet)).total ≤ 4 * a * (100 + threshold) * most_plans bouquet.contours * work p)
    (none-skipped [] (schedule bouquet)) skipped
