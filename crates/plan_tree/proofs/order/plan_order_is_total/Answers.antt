use Rattle.plan_tree.proofs.PlanOrder.{total, same, behind}
use Rattle.plan_tree.proofs.order.plan_order_is_total.Goals as goal

pub returns-clause-total : goal.returns-clause-total
returns-clause-total c = total

pub returns-clause-same : goal.returns-clause-same
returns-clause-same c = same

pub returns-clause-sides : goal.returns-clause-sides
returns-clause-sides c = behind
