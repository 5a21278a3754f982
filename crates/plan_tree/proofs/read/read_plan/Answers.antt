use Rattle.std.proofs.Common.{◌∙◌, sym}
use Rattle.plan_tree.specs.Plans.{plan_tree}
use Rattle.plan_tree.proofs.Reader.{has_text}
use Rattle.plan_tree.proofs.read.read_plan.Goals as goal

pub returns-then-is_whole-clause-plan : goal.returns-then-is_whole-clause-plan
returns-then-is_whole-clause-plan c =
    has_text (plan_tree c.in_ok-plan.plan) c.args.bytes.now c.in_ok-plan.rest.now c.in_ok-plan.ensures (sym c.is_whole.ensures ∙ c.if-is_whole.true)
