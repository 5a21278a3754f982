use Rattle.std.proofs.Common.{◌≡◌, ℕ, ◌-◌, ◌++◌, [], ◌∷◌, List, Vec, Global, length, map, refl, sym, ap, ap₂, ◌∙◌, arith}
use Rattle.std.proofs.lemmas.Grind.{common_steps}
use Rattle.std.proofs.lemmas.List.{length-map, map_push}
use Rattle.query_block.specs.Blocks.{BlockTree, block_tree}
use Rattle.plan_tree.specs.declared.plan.Plan.{Plan}
use Rattle.plan_tree.specs.Plans.{PlanTree, plan_tree}
use Rattle.plan_tree.specs.AllPlans.{plans_below, plans_over}
use Rattle.plan_tree.proofs.Listed.{below-more, length-below, last-whole}
use Rattle.plan_tree.proofs.enumerate.list_plans.Goals as goal

abbrev trees : Vec Plan Global → List PlanTree
trees list = map plan_tree list.items

length-lists : (block : BlockTree) (lists : List (Vec Plan Global)) (set : ℕ) → map trees lists ≡ plans_below block set → length lists ≡ set
length-lists block lists set so = sym (length-map lists trees) ∙ ap length so ∙ length-below block set

pub loop-set-init : goal.loop-set-init
unfolding plans_below
loop-set-init c = ap (map trees) c.new-lists.ensures.items

pub plans_over-requires : goal.plans_over-requires
plans_over-requires c = grind (arith, common_steps, length-lists)

pub loop-set-preserved : goal.loop-set-preserved
loop-set-preserved c =
    let block = block_tree c.args.block.now in
    let set = c.loop-set.set in
    let so : map trees c.deref.result.now ≡ plans_below block set = ap (map trees) c.deref.ensures.value ∙ c.loop-set.invariant in
    ap (map trees) c.in_ok-push.ensures.items ∙ map_push trees c.loop-set.lists.items c.in_ok-plans.plans
    ∙ ap₂ (λ (lists : List (List PlanTree)) (plans : List PlanTree). lists ++ plans ∷ []) c.loop-set.invariant
    (c.in_ok-plans.ensures ∙ ap (λ (lists : List (List PlanTree)). plans_over block lists set) so)
    ∙ sym (below-more block set)

pub plans_over-requires-2 : goal.plans_over-requires-2
plans_over-requires-2 c = grind (arith, common_steps, length-lists)

pub returns : goal.returns
returns c =
    let block = block_tree c.args.block.now in
    let last = c.set_count-last.result - 1 in
    let at : c.loop-set.set ≡ last = omega arith in
    let so : map trees c.deref-2.result.now ≡ plans_below block last =
    ap (map trees) c.deref-2.ensures.value ∙ c.loop-set.invariant ∙ ap (plans_below block) at in
    c.in_ok-plans-2.ensures ∙ ap (λ (lists : List (List PlanTree)). plans_over block lists last) so
    ∙ last-whole block last c.set_count-last.result c.set_count-last.ensures.count c.set_count-last.ensures.some refl
