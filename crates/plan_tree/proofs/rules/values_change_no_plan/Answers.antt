use Rattle.plan_tree.proofs.PutPlans.{put-plan}
use Rattle.plan_tree.proofs.rules.values_change_no_plan.Goals as goal

pub returns : goal.returns
returns c = put-plan
