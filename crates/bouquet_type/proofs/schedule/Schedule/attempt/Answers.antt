use Rattle.std.proofs.Common.{◌≡◌, ◌∙◌, ◌-◌, ◌<◌, List, All, length, map, drop, arith, ap, subst, sym, slice_index_or}
use Rattle.std.proofs.lemmas.List.{length-map, get_or-map}
use Rattle.std.proofs.lemmas.List.Elements.{All-drop, All-head, All-take}
use Rattle.query_block.specs.Blocks.{BlockTree}
use Rattle.plan_tree.specs.declared.plan.Plan.{Plan}
use Rattle.plan_tree.specs.Plans.{PlanTree, plan_tree}
use Rattle.plan_tree.specs.Enumerated.{IsPlan}
use Rattle.bouquet_type.specs.Cursor.{schedule_of}
use Rattle.bouquet_type.specs.Ladders.{AreTried}
use Rattle.bouquet_type.proofs.schedule.Schedule.attempt.Goals as goal

-- plans whose trees are plans of a block
each-plan : (block : BlockTree) (trees : List PlanTree) (plans : List Plan) → map plan_tree plans ≡ trees → All (IsPlan block) trees → All (λ p. IsPlan block (plan_tree p)) plans
each-plan block trees plans same are k d there =
    let is : slice_index_or trees k (plan_tree d) ≡ plan_tree (slice_index_or plans k d) =
    ap (λ all. slice_index_or all k (plan_tree d)) (sym same) ∙ get_or-map plan_tree plans k d (plan_tree d) there in
    subst (IsPlan block) is (are k (plan_tree d) (omega (arith, there, ap length same, length-map plans plan_tree)))

pub returns-clause-plan : goal.returns-clause-plan
returns-clause-plan g c =
    let s = schedule_of g.L.Ladder.state c.args.self.now in
    let block = s.ladder.whole.costing.block in
    let plans = c.plans-plans.result.now in
    let there : s.given - 1 < length s.ladder.hand.plans = omega (arith, c.requires.some, c.requires.is.given) in
    let tried = All-head (AreTried block) s.ladder.hand s.ladder.ahead c.requires.is.ladder.tried in
    subst (λ p. IsPlan block (plan_tree p)) (sym c.index-plans-self.is)
    (each-plan block s.ladder.hand.plans plans c.plans-plans.ensures.plans tried.plans (s.given - 1) c.index-plans-self.result (omega (arith, there, ap length c.plans-plans.ensures.plans, length-map plans plan_tree)))

pub returns-clause-coming : goal.returns-clause-coming
returns-clause-coming g c =
    let s = schedule_of g.L.Ladder.state c.args.self.now in
    let block = s.ladder.whole.costing.block in
    let plans = c.plans-plans.result.now in
    let tried = All-head (AreTried block) s.ladder.hand s.ladder.ahead c.requires.is.ladder.tried in
    let are = each-plan block s.ladder.hand.plans plans c.plans-plans.ensures.plans tried.plans in
    All-take (λ p. IsPlan block (plan_tree p)) (length plans - s.given) (drop s.given plans) (All-drop (λ p. IsPlan block (plan_tree p)) s.given plans are)
