-- What stands on the two sides of a plan, and the order of two plans by it.
use Rattle.std.specs.Prelude.{ℕ}
use Rattle.std.specs.declared.cmp.Ordering.{Ordering}
use Rattle.std.specs.declared.cmp.Ordering.TheVariants.{Equal}
use Rattle.std.specs.Ordering.{nat_cmp, ordering_then}
use Rattle.plan_tree.specs.Plans.{PlanTree, Nest, Hash, Merge, IndexLoop}
use Rattle.plan_tree.specs.Order.{plan_order_of}

-- the left side of a join; of a leaf the leaf
abbrev pub left_side : PlanTree → PlanTree
left_side (Nest left right) = left
left_side (Hash edge left right) = left
left_side (Merge edge left right) = left
left_side (IndexLoop edge left relation) = left
left_side leaf = leaf

-- the right side of a join; of a leaf and of an index loop the plan itself
abbrev pub right_side : PlanTree → PlanTree
right_side (Nest left right) = right
right_side (Hash edge left right) = right
right_side (Merge edge left right) = right
right_side other = other

-- the relation on the right of an index loop; 0 of other plans
abbrev pub right_relation : PlanTree → ℕ
right_relation (IndexLoop edge left relation) = relation
right_relation other = 0

-- the order of two plans whose outermost nodes are compared already: the left plans decide before what stands on the right
abbrev pub side_order : PlanTree → PlanTree → Ordering
side_order (Nest left right) other = ordering_then (plan_order_of left (left_side other)) (plan_order_of right (right_side other))
side_order (Hash edge left right) other = ordering_then (plan_order_of left (left_side other)) (plan_order_of right (right_side other))
side_order (Merge edge left right) other = ordering_then (plan_order_of left (left_side other)) (plan_order_of right (right_side other))
side_order (IndexLoop edge left relation) other = ordering_then (plan_order_of left (left_side other)) (nat_cmp relation (right_relation other))
side_order leaf other = Equal
