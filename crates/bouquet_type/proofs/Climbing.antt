-- From the foot of a bouquet to its last contour.
use Rattle.std.proofs.Common.{◌≡◌, ◌∙◌, ℕ, ◌+◌, ◌*◌, ◌≤◌, List, [], ◌∷◌, length, map, refl, ap, sym, take, drop, slice_index_or, ◌-◌, subst, arith}
use Rattle.std.specs.Prelude.{All}
use Rattle.std.proofs.lemmas.List.{length-map, length-append, length-drop, drop_more, take_all}
use Rattle.std.proofs.lemmas.List.Elements.{All-nil, All-cons, All-head, All-tail, All-map, All-weaker}
use Rattle.query_block.specs.Blocks.{BlockTree}
use Rattle.plan_tree.specs.Plans.{PlanTree, plan_tree}
use Rattle.plan_tree.specs.Enumerated.{IsPlan}
use Rattle.bouquet_type.specs.declared.contour.Contour.{Contour}
use Rattle.bouquet_type.specs.Shapes.{BouquetShape}
use Rattle.bouquet_type.specs.Trees.{BouquetTree, ContourTree, IsBouquet, IsContour, bouquet_tree, contour_tree}
use Rattle.bouquet_type.specs.Budgets.{budget_of}
use Rattle.bouquet_type.specs.Schedule.{final_of, members_on, members_from}
use Rattle.bouquet_type.specs.Ladders.{AreTried, IsLadder, foot_of}
use Rattle.bouquet_type.specs.Kept.{KeptState, ladder_of}
use Rattle.bouquet_type.proofs.Meets.{plans-of-bouquet}

-- a contour has a plan
abbrev HasPlan : ContourTree → Type 0
HasPlan contour = 1 ≤ length contour.plans

tried-contour : (block : BlockTree) (contour : Contour) → IsContour block contour → AreTried block (contour_tree contour)
tried-contour block contour is = record {
  cost = is.cost;
  few = omega (arith, is.few, length-map contour.plans.items plan_tree);
  plans = All-map (IsPlan block) plan_tree contour.plans.items is.plans;
}

some-plans : (block : BlockTree) (contour : Contour) → IsContour block contour → HasPlan (contour_tree contour)
some-plans block contour is = omega (arith, is.some, length-map contour.plans.items plan_tree)

-- a contour without plans may stand before some
final-foot : (contours : List ContourTree) → 1 ≤ length contours → final_of contours ≡ final_of (record { cost = 0; plans = [] } ∷ contours)
final-foot [] some = absurd (omega (arith, some))
final-foot (contour ∷ more) some = refl

pub ladder-foot : (b : BouquetShape) → IsBouquet b → IsLadder (foot_of (bouquet_tree b))
ladder-foot b is =
    let block = (bouquet_tree b).costing.block in
    let contours = map contour_tree b.contours in
    let long : length contours ≡ length b.contours = length-map b.contours contour_tree in
    record {
      threshold = is.threshold;
      plans = plans-of-bouquet b is;
      tried = All-cons (AreTried block) (record { cost = 0; plans = [] }) contours
          (record { cost = omega arith; few = omega arith; plans = All-nil (IsPlan block) })
          (All-map (AreTried block) contour_tree b.contours (All-weaker (IsContour block) (λ contour. AreTried block (contour_tree contour)) (tried-contour block) b.contours is.contours));
      some = All-map HasPlan contour_tree b.contours (All-weaker (IsContour block) (λ contour. HasPlan (contour_tree contour)) (some-plans block) b.contours is.contours);
      few = omega (arith, is.few, long);
      last = λ none. absurd (omega (arith, is.some, long, ap length none));
      final = final-foot contours (omega (arith, is.some, long));
    }

pub ladder-climbed : (whole : BouquetTree) (hand next : ContourTree) (more : List ContourTree)
    → IsLadder (record { whole = whole; hand = hand; ahead = next ∷ more }) → IsLadder (record { whole = whole; hand = next; ahead = more })
ladder-climbed whole hand next more is =
    let block = whole.costing.block in
    record {
      threshold = is.threshold;
      plans = is.plans;
      tried = All-tail (AreTried block) hand (next ∷ more) is.tried;
      some = All-tail HasPlan next more is.some;
      few = omega (arith, is.few);
      last = λ none. All-head HasPlan next more is.some;
      final = is.final;
    }

-- so it is of a bouquet that is there
pub kept-climbed : (k : KeptState) (contour : Contour) → IsLadder (ladder_of k) → 1 ≤ length k.ahead → contour ≡ slice_index_or k.ahead 0 contour
    → IsLadder (ladder_of (record { bouquet = k.bouquet; ahead = take (length k.ahead - 1) (drop 1 k.ahead); plans = contour.plans.items; cost = contour.cost }))
kept-climbed k contour is some first =
    let rest : take (length k.ahead - 1) (drop 1 k.ahead) ≡ drop 1 k.ahead = take_all (length k.ahead - 1) (drop 1 k.ahead) (omega (arith, length-drop 1 k.ahead)) in
    let split : k.ahead ≡ contour ∷ drop 1 k.ahead = drop_more k.ahead 0 contour some ∙ ap (λ one. one ∷ drop 1 k.ahead) (sym first) in
    let hand : ContourTree = record { cost = k.cost; plans = map plan_tree k.plans } in
    rw rest (ladder-climbed (bouquet_tree k.bouquet) hand (contour_tree contour) (map contour_tree (drop 1 k.ahead))
    (subst (λ ahead. IsLadder (record { whole = bouquet_tree k.bouquet; hand = hand; ahead = map contour_tree ahead })) split is))

-- on a contour there are as many executions as plans
pub many-members : (budget number cost place : ℕ) (plans : List PlanTree) → length (members_on budget number cost place plans) ≡ length plans
many-members budget number cost place [] = refl
many-members budget number cost place (p ∷ more) = omega (arith, many-members budget number cost (place + 1) more)

-- how many executions there are on contours
pub few-members : (block : BlockTree) (threshold number : ℕ) (contours : List ContourTree) → All (AreTried block) contours
    → length (members_from threshold number contours) ≤ 4096 * length contours
few-members block threshold number [] are = omega arith
few-members block threshold number (first ∷ more) are =
    let here = All-head (AreTried block) first more are in
    let budget = budget_of threshold first.cost in
    let counted = many-members budget number first.cost 1 first.plans in
    let both = length-append (members_on budget number first.cost 1 first.plans) (members_from threshold (number + 1) more) in
    let later = few-members block threshold (number + 1) more (All-tail (AreTried block) first more are) in
    omega (arith, here.few, counted, both, later)
