-- The text of a plan.
use Rattle.std.specs.Prelude.{ℕ, List, ◌++◌, codes, decimal}
use Rattle.plan_tree.specs.Plans.{PlanTree, Scan, IndexScan, Nest, Hash, Merge, IndexLoop}

-- the two sides of a join
abbrev pub sides_text : List ℕ → List ℕ → List ℕ
sides_text left right = codes "(" ++ left ++ codes "," ++ right ++ codes ")"

-- a letter for the node, its numbers, its sides
abbrev pub plan_text_of : PlanTree → List ℕ
plan_text_of (Scan relation) = codes "S" ++ decimal relation
plan_text_of (IndexScan relation column) = codes "I" ++ decimal relation ++ codes "." ++ decimal column
plan_text_of (Nest left right) = codes "N" ++ sides_text (plan_text_of left) (plan_text_of right)
plan_text_of (Hash edge left right) = codes "H" ++ decimal edge ++ sides_text (plan_text_of left) (plan_text_of right)
plan_text_of (Merge edge left right) = codes "M" ++ decimal edge ++ sides_text (plan_text_of left) (plan_text_of right)
plan_text_of (IndexLoop edge left relation) = codes "X" ++ decimal edge ++ sides_text (plan_text_of left) (decimal relation)
