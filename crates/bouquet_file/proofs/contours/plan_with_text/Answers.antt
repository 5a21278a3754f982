use Rattle.std.proofs.Common.{true≢false, Err, sym, ap, ◌∙◌}
use Rattle.query_block.specs.Blocks.{block_tree}
use Rattle.plan_tree.specs.Plans.{plan_tree}
use Rattle.bouquet_file.proofs.Plans.{found-by-text, not-found, unread}
use Rattle.bouquet_file.proofs.contours.plan_with_text.Goals as goal

pub returns-then-is_plan-clause-plan : goal.returns-then-is_plan-clause-plan
returns-then-is_plan-clause-plan c =
    sym (found-by-text (block_tree c.args.block.now) (plan_tree c.in-Ok.plan) c.args.text.now c.relations.ensures.block
    (c.is_plan.ensures.0 c.if-is_plan.true) c.in-Ok.ensures.plan)

pub returns-else-is_plan-clause-plan : goal.returns-else-is_plan-clause-plan
returns-else-is_plan-clause-plan c =
    sym (not-found (block_tree c.args.block.now) (plan_tree c.in-Ok.plan) c.args.text.now c.relations.ensures.block
    c.in-Ok.ensures.plan (λ is. true≢false (sym (c.is_plan.ensures.1 is) ∙ c.if-is_plan.false)))

pub returns-in-Err-NotPlanText-clause-plan : goal.returns-in-Err-NotPlanText-clause-plan
returns-in-Err-NotPlanText-clause-plan c =
    sym (unread (block_tree c.args.block.now) c.args.text.now c.relations.ensures.block
    (c.in-Err-NotPlanText.ensures.refused (ap Err c.in-Err-NotPlanText.field-0-is)))
