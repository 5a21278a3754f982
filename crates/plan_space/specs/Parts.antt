-- The parts of some plans, each a number from 0: a node over parts before it.
use Rattle.std.specs.Prelude.{◌≡◌, ℕ, ◌<◌, ◌≤◌, List, [], ◌∷◌, ◌++◌, length, slice_index, slice_index_or, take}
use Rattle.query_block.specs.Shape.{BlockShape}
use Rattle.query_block.specs.Blocks.{BlockTree}
use Rattle.plan_tree.specs.Plans.{PlanTree, Scan, IndexScan, Nest, Hash, Merge, IndexLoop, covers_of}
use Rattle.plan_tree.specs.Enumerated.{IsSubPlan}
use Rattle.plan_tree.specs.declared.roots.Root.{Root}
use Rattle.plan_tree.specs.declared.roots.Root.TheVariants as root
use Rattle.plan_tree.specs.Roots.{root_of}
use Rattle.cost_model.specs.Costing.{costing_tree}
use Rattle.cost_model.specs.Costs.{cost_of}
use Rattle.cost_model.specs.Pricing.{Pricing}
use Rattle.plan_space.specs.declared.node.Node.{Node}

-- parts of plans of a block, in the order of their numbers
pub record PartsShape : Type 0 where
  pub block : BlockShape
  pub plans : List PlanTree

-- the plan at this place of a list, from 0
abbrev pub nth_plan : List PlanTree → (place : ℕ) → PlanTree
nth_plan plans place = slice_index_or plans place (Scan 0)

-- a plan is the one at this place
pub record IsNthPlan (plans : List PlanTree) (p : PlanTree) (place : ℕ) : Type 0 where
  pub exists : place < length plans
  pub is : nth_plan plans place ≡ p

-- a node over the parts of these numbers
abbrev pub plan_over : List PlanTree → Root → (left right : ℕ) → PlanTree
plan_over parts (root.Scan relation) left right = Scan relation
plan_over parts (root.IndexScan relation column) left right = IndexScan relation column
plan_over parts (root.Nest set) left right = Nest (nth_plan parts left) (nth_plan parts right)
plan_over parts (root.Hash edge set) left right = Hash edge (nth_plan parts left) (nth_plan parts right)
plan_over parts (root.Merge edge set) left right = Merge edge (nth_plan parts left) (nth_plan parts right)
plan_over parts (root.IndexLoop edge set relation) left right = IndexLoop edge (nth_plan parts left) relation

-- some parts, and those of some nodes behind them, each over the parts before it
abbrev pub parts_behind : List PlanTree → List Node → List PlanTree
parts_behind parts [] = parts
parts_behind parts (node ∷ more) = parts_behind (parts ++ plan_over parts node.root node.left node.right ∷ []) more

-- the sides of a node are numbers below this one
abbrev pub AreSidesBelow : Root → (left right number : ℕ) → Type 0
AreSidesBelow (root.Scan relation) left right number = Unit {0}
AreSidesBelow (root.IndexScan relation column) left right number = Unit {0}
AreSidesBelow (root.Nest set) left right number = (left < number) × (right < number)
AreSidesBelow (root.Hash edge set) left right number = (left < number) × (right < number)
AreSidesBelow (root.Merge edge set) left right number = (left < number) × (right < number)
AreSidesBelow (root.IndexLoop edge set relation) left right number = left < number

-- a node with this set over some parts is a plan of some of the block's relations
pub record IsNodeOver (block : BlockTree) (parts : List PlanTree) (node : Root) (set left right : ℕ) : Type 0 where
  pub plan : IsSubPlan block (plan_over parts node left right)
  pub outermost : node ≡ root_of (plan_over parts node left right)
  pub covers : set ≡ covers_of (plan_over parts node left right)
  pub sides : AreSidesBelow node left right (length parts)

-- the node of this number
abbrev pub node_at : List Node → (number : ℕ) → Node
node_at nodes number = slice_index_or nodes number (record { root = root.Scan 0; set = 0; left = 0; right = 0; earlier = 0 })

-- two nodes are the same, whatever comes before them in their buckets
pub record IsSameNode (node other : Node) : Type 0 where
  pub root : node.root ≡ other.root
  pub set : node.set ≡ other.set
  pub left : node.left ≡ other.left
  pub right : node.right ≡ other.right

-- the part of a number is that of its node over the parts before it
pub record IsNodeAt (block : BlockTree) (parts : List PlanTree) (node : Node) (number : ℕ) : Type 0 where
  pub over : IsNodeOver block (take number parts) node.root node.set node.left node.right
  pub part : nth_plan parts number ≡ plan_over (take number parts) node.root node.left node.right

abbrev pub AreNodes : BlockTree → List Node → Type 0
AreNodes block nodes = (number : ℕ) → number < length nodes → IsNodeAt block (parts_behind [] nodes) (node_at nodes number) number

-- there may be more parts, and each has the number that it had
pub record KeepsParts (before after : PartsShape) : Type 0 where
  pub block : after.block ≡ before.block
  pub more : length before.plans ≤ length after.plans
  pub kept : (number : ℕ) → number < length before.plans → nth_plan after.plans number ≡ nth_plan before.plans number

-- what the parts cost whose numbers are below the end
abbrev pub ArePartCosts : Pricing → (parts : List PlanTree) → (costs : List ℕ) → (end : ℕ) → Type 0
ArePartCosts at parts costs end =
    (number : ℕ) → number < end → slice_index costs number ≡ cost_of (costing_tree at.costing) (nth_plan parts number) at.point
