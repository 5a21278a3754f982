use Rattle.std.proofs.Common.{List, ap, ◌∙◌, arith}
use Rattle.std.proofs.lemmas.Grind.{common_steps}
use Rattle.std.specs.List.{flat_map}
use Rattle.std.proofs.lemmas.List.{get_or_read}
use Rattle.std.proofs.lemmas.List.Elements.{All-same}
use Rattle.query_block.specs.Blocks.{block_tree}
use Rattle.plan_tree.specs.declared.roots.Root.{Root}
use Rattle.plan_tree.specs.AllPlans.{plans_at, plans_below, roots_of, trees_of}
use Rattle.plan_tree.proofs.LeftSides.{left-sides}
use Rattle.plan_tree.proofs.PlanCounts.{plan_count, count-whole, counts-more, length-counts}
use Rattle.plan_tree.proofs.enumerate.count_plans.Goals as goal

pub loop-set-init : goal.loop-set-init
unfolding plans_below
loop-set-init c = c.new-counts.ensures.items

pub count_over-count-requires-clause-length : goal.count_over-count-requires-clause-length
count_over-count-requires-clause-length c =
    length-counts (block_tree c.args.block.now) _ c.loop-set.set (c.deref.ensures.value ∙ c.loop-set.invariant)

pub count_over-count-requires-clause-left : goal.count_over-count-requires-clause-left
count_over-count-requires-clause-left c = grind (arith, common_steps, All-same, left-sides)

pub loop-set-preserved : goal.loop-set-preserved
loop-set-preserved c =
    let block = block_tree c.args.block.now in
    let below = plans_below block c.loop-set.set in
    counts-more block _ _ c.loop-set.set _ c.loop-set.invariant c.in_ok-push.ensures.items
    (c.count_over-count.ensures below (c.deref.ensures.value ∙ c.loop-set.invariant)
    ∙ ap (λ (roots : List Root). plan_count (flat_map (trees_of (plans_at below) c.loop-set.set) roots))
    (c.deref-in-loop-set.ensures.value ∙ c.in_ok-roots.ensures ∙ ap (roots_of block) c.new.ensures))

pub index-requires : goal.index-requires
index-requires c = grind (arith, common_steps, length-counts)

pub returns : goal.returns
returns c = grind (arith, common_steps, length-counts, count-whole, get_or_read)
