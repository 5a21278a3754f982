use Rattle.std.proofs.Common.{◌∙◌}
use Rattle.plan_tree.specs.Plans.{plan_tree}
use Rattle.plan_tree.proofs.PlanOrder.{where-equal, where-unequal}
use Rattle.plan_tree.proofs.order.+plan_order.Goals as goal

pub plan_order-returns-in-Equal : goal.plan_order-returns-in-Equal
plan_order-returns-in-Equal t c =
    c.side_order.ensures ∙ where-equal (plan_tree c.args.a.now) (plan_tree c.args.b.now) c.node_order.result c.node_order.ensures c.in-Equal.is

pub plan_order-returns-in_default : goal.plan_order-returns-in_default
plan_order-returns-in_default t c =
    where-unequal (plan_tree c.args.a.now) (plan_tree c.args.b.now) c.node_order.result c.node_order.ensures c.in_default.not-Equal
