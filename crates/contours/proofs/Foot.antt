-- The compiled bouquet, climbed from its foot.
use Rattle.std.proofs.Common.{◌≡◌, ◌∙◌, ℕ, ◌+◌, ◌<◌, ◌≤◌, ◌^◌, List, [], ◌∷◌, All, drop, length, map, get_or, refl, ap, sym, subst, arith}
use Rattle.std.specs.Prelude.{Option, Some, None}
use Rattle.std.proofs.lemmas.List.{length-map, get_or-map, drop_more, drop_all}
use Rattle.std.proofs.lemmas.List.Elements.{All-nil, All-cons, All-map}
use Rattle.std.proofs.lemmas.List.FromFn.{length-map-range_with_len, get_or-map-range_with_len}
use Rattle.ess_grid.specs.Points.{bottom_of}
use Rattle.query_block.specs.Blocks.{BlockTree}
use Rattle.plan_tree.specs.Plans.{plan_tree}
use Rattle.plan_tree.specs.Enumerated.{IsPlan}
use Rattle.cost_model.specs.Costing.{CostingShape, CostingTree, IsCosting, costing_tree}
use Rattle.cost_model.specs.Optimal.{optimal_cost}
use Rattle.bouquet_type.specs.declared.contour.Contour.{Contour}
use Rattle.bouquet_type.specs.Trees.{BouquetTree, ContourTree, IsContour, contour_tree}
use Rattle.bouquet_type.specs.Budgets.{contour_cost}
use Rattle.bouquet_type.specs.Compiled.{compiled, compiled_contour, contour_costs, contour_count}
use Rattle.bouquet_type.specs.Schedule.{final_of}
use Rattle.bouquet_type.specs.Ladders.{AreTried, IsLadder, StandsAtFoot, foot_of}
use Rattle.bouquet_type.proofs.Climbing.{ladder-climbed}
use Rattle.contours.specs.Lazy.{MakerState, lazy_ladder, whole_of, ahead_of}
use Rattle.contours.proofs.Reduced.{reduced-some, reduced-few, reduced-plans}
use Rattle.contours.proofs.Count.{count-last, long-compiled, cost-some, cost-few}

-- a contour has a plan
abbrev pub HasPlan : ContourTree → Type 0
HasPlan contour = 1 ≤ length contour.plans

-- the cost of a contour of the compiled bouquet
record IsCost (costing : CostingTree) (cost : ℕ) : Type 0 where
  some : optimal_cost costing (bottom_of costing.grid) ≤ cost
  few : cost ≤ 2 ^ 114

costs-are : (costing : CostingTree) → IsCosting costing → All (IsCost costing) (contour_costs costing)
costs-are costing is = λ k d there.
    let long = length-map-range_with_len (contour_cost costing) 1 (contour_count costing) in
    let within : k < contour_count costing = omega (arith, there, long) in
    let cost : get_or (contour_costs costing) k d ≡ contour_cost costing (1 + k) = get_or-map-range_with_len (contour_cost costing) 1 (contour_count costing) k (1 + k) d within refl in
    subst (IsCost costing) (sym cost) (record { some = cost-some costing (1 + k); few = cost-few costing (1 + k) is (omega arith) (omega (arith, within)) })

final-foot : (foot : ContourTree) (contours : List ContourTree) → 1 ≤ length contours → final_of contours ≡ final_of (foot ∷ contours)
final-foot foot [] some = absurd (omega (arith, some))
final-foot foot (contour ∷ more) some = refl

pub compiled-foot : (costing : CostingTree) (threshold : ℕ) → IsCosting costing → threshold ≤ 1000 → IsLadder (foot_of (compiled costing threshold))
unfolding compiled
compiled-foot costing threshold is percent =
    let block = costing.block in
    let contour = compiled_contour costing threshold in
    let costs = contour_costs costing in
    let contours = map contour costs in
    let foot : ContourTree = record { cost = 0; plans = [] } in
    let count = count-last costing is in
    let long = long-compiled costing threshold in
    let IsOf : ContourTree → Type 0 = λ one. All (IsPlan block) one.plans in
    record {
      threshold = percent;
      plans = All-map IsOf contour costs (λ k d there. reduced-plans costing threshold (get_or costs k d) is);
      tried = All-cons (AreTried block) foot contours (record { cost = omega arith; few = omega arith; plans = All-nil (IsPlan block) })
          (All-map (AreTried block) contour costs (λ k d there. record {
            cost = (costs-are costing is k d there).few;
            few = reduced-few costing threshold (get_or costs k d) is;
            plans = reduced-plans costing threshold (get_or costs k d) is;
          }));
      some = All-map HasPlan contour costs (λ k d there. reduced-some costing threshold (get_or costs k d) is (costs-are costing is k d there).some);
      few = omega (arith, long, count.1);
      last = λ none. absurd (omega (arith, long, count.0.some, ap length none));
      final = final-foot foot contours (omega (arith, long, count.0.some));
    }

-- the contours that aren't made yet
pub next-ahead : (costing : CostingTree) (threshold made : ℕ) → made < contour_count costing
    → drop made (compiled costing threshold).contours ≡ compiled_contour costing threshold (contour_cost costing (made + 1)) ∷ drop (made + 1) (compiled costing threshold).contours
unfolding compiled
next-ahead costing threshold made more =
    let contour = compiled_contour costing threshold in
    let costs = contour_costs costing in
    let contours = map contour costs in
    let long = length-map-range_with_len (contour_cost costing) 1 (contour_count costing) in
    let there : made < length costs = omega (arith, more, long) in
    let cost : get_or costs made 0 ≡ contour_cost costing (made + 1) = get_or-map-range_with_len (contour_cost costing) 1 (contour_count costing) made (made + 1) 0 more (omega arith) in
    drop_more contours made (contour 0) (omega (arith, there, length-map costs contour))
    ∙ ap (λ (one : ContourTree). one ∷ drop (made + 1) contours) (get_or-map contour costs made 0 (contour 0) there ∙ ap contour cost)

pub none-ahead : (costing : CostingTree) (threshold made : ℕ) → contour_count costing ≤ made → drop made (compiled costing threshold).contours ≡ []
none-ahead costing threshold made all = drop_all made (compiled costing threshold).contours (omega (arith, all, long-compiled costing threshold))

-- contours as code holds them
pub contours-shaped : (block : BlockTree) (contours : List Contour) → All (AreTried block) (map contour_tree contours) → All HasPlan (map contour_tree contours) → All (IsContour block) contours
contours-shaped block contours tried some = λ k d there.
    let one = get_or contours k d in
    let trees = map contour_tree contours in
    let place : k < length trees = omega (arith, there, length-map contours contour_tree) in
    let same : get_or trees k (contour_tree d) ≡ contour_tree one = get_or-map contour_tree contours k d (contour_tree d) there in
    let are = subst (AreTried block) same (tried k (contour_tree d) place) in
    let has = subst HasPlan same (some k (contour_tree d) place) in
    let items = one.plans.items in
    let long = length-map items plan_tree in
    record {
      cost = are.cost;
      some = omega (arith, has, long);
      few = omega (arith, are.few, long);
      plans = λ j e in_plans. subst (IsPlan block) (get_or-map plan_tree items j e (plan_tree e) in_plans) (are.plans j (plan_tree e) (omega (arith, in_plans, long)));
    }

-- a maker that has made no contour
pub stands-first : (m : MakerState) (costing : CostingShape) (threshold : ℕ) → IsCosting (costing_tree costing) → threshold ≤ 1000
    → m ≡ record { costing = costing; threshold = threshold; made = 0 } → StandsAtFoot (lazy_ladder (record { maker = m; hand = None }))
stands-first m costing threshold is percent same =
    subst (λ (one : MakerState). StandsAtFoot (lazy_ladder (record { maker = one; hand = None }))) (sym same)
    (record { ladder = compiled-foot (costing_tree costing) threshold is percent; foot = refl })

-- one that has made the next contour
pub climbed : (old new : MakerState) (hand : Option Contour) (contour : Contour) → whole_of new ≡ whole_of old → ahead_of old ≡ contour_tree contour ∷ ahead_of new
    → IsLadder (lazy_ladder (record { maker = old; hand = hand })) → IsLadder (lazy_ladder (record { maker = new; hand = Some contour }))
climbed old new hand contour whole ahead is =
    let before = (lazy_ladder (record { maker = old; hand = hand })).hand in
    let here = subst (λ (all : List ContourTree). IsLadder (record { whole = whole_of old; hand = before; ahead = all })) ahead is in
    subst (λ (all : BouquetTree). IsLadder (record { whole = all; hand = contour_tree contour; ahead = ahead_of new })) (sym whole)
    (ladder-climbed (whole_of old) before (contour_tree contour) (ahead_of new) here)
