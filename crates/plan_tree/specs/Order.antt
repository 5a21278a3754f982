-- Plan order: which of two plans comes first.
use Rattle.std.specs.Prelude.{ℕ, List, [], ◌∷◌, ◌++◌}
use Rattle.std.specs.declared.cmp.Ordering.{Ordering}
use Rattle.std.specs.Ordering.{nat_cmp}
use Rattle.std.specs.Cmp.Lexicographic.{slice_cmp}
use Rattle.plan_tree.specs.Plans.{PlanTree, Scan, IndexScan, Nest, Hash, Merge, IndexLoop}
use Rattle.plan_tree.specs.Roots.{root_of, root_numbers}

-- what is compared of the outermost node: its kind, its edge, a leaf's relation and column, the set of its left side
abbrev pub node_numbers : PlanTree → List ℕ
node_numbers p = root_numbers (root_of p)

-- all that is compared: the outermost node, then the left plan, then the right plan or the right relation
abbrev pub plan_numbers : PlanTree → List ℕ
plan_numbers (Scan relation) = node_numbers (Scan relation)
plan_numbers (IndexScan relation column) = node_numbers (IndexScan relation column)
plan_numbers (Nest left right) = node_numbers (Nest left right) ++ plan_numbers left ++ plan_numbers right
plan_numbers (Hash edge left right) = node_numbers (Hash edge left right) ++ plan_numbers left ++ plan_numbers right
plan_numbers (Merge edge left right) = node_numbers (Merge edge left right) ++ plan_numbers left ++ plan_numbers right
plan_numbers (IndexLoop edge left relation) = node_numbers (IndexLoop edge left relation) ++ plan_numbers left ++ relation ∷ []

-- the first number that differs decides
abbrev pub plan_order_of : PlanTree → PlanTree → Ordering
plan_order_of a b = slice_cmp nat_cmp (plan_numbers a) (plan_numbers b)
