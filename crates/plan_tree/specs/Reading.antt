-- Which text is the text of which plan.
use Rattle.std.specs.Prelude.{◌≡◌, ℕ, ◌≤◌, List, length}
use Rattle.plan_tree.specs.Plans.{PlanTree, Scan, IndexScan, Nest, Hash, Merge, IndexLoop, leaves_of}
use Rattle.plan_tree.specs.Text.{plan_text_of}

-- its numbers are such as a query can have: relations and edges to 5, columns to 31
abbrev pub HasQueryNumbers : PlanTree → Type 0
HasQueryNumbers (Scan relation) = relation ≤ 5
HasQueryNumbers (IndexScan relation column) = (relation ≤ 5) × (column ≤ 31)
HasQueryNumbers (Nest left right) = HasQueryNumbers left × HasQueryNumbers right
HasQueryNumbers (Hash edge left right) = (edge ≤ 5) × HasQueryNumbers left × HasQueryNumbers right
HasQueryNumbers (Merge edge left right) = (edge ≤ 5) × HasQueryNumbers left × HasQueryNumbers right
HasQueryNumbers (IndexLoop edge left relation) = (edge ≤ 5) × HasQueryNumbers left × (relation ≤ 5)

-- this is the text of the plan, which has at most six leaves
pub record HasText (p : PlanTree) (bytes : List ℕ) : Type 0 where
  pub numbers : HasQueryNumbers p
  pub few : length (leaves_of p) ≤ 6
  pub text : bytes ≡ plan_text_of p
