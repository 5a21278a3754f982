-- What parts of plans cost as sums: what a node costs by itself, and what its sides cost.
use Rattle.std.specs.Prelude.{◌≡◌, ℕ, ◌+◌, ◌<◌, ◌≤◌, All, List, length, slice_index, slice_index_or}
use Rattle.sql_values.specs.Limits.{cost_bound}
use Rattle.query_block.specs.Blocks.{BlockTree, block_tree}
use Rattle.plan_tree.specs.Plans.{PlanTree, Scan, IndexScan, Nest, Hash, Merge, IndexLoop, covers_of}
use Rattle.plan_tree.specs.declared.roots.Root.{Root}
use Rattle.plan_tree.specs.declared.roots.Root.TheVariants as root
use Rattle.plan_tree.specs.Roots.{root_of, Stands}
use Rattle.cost_model.specs.Pricing.{Pricing}
use Rattle.cost_model.specs.Prices.{IsPrice, IsSetOf}
use Rattle.plan_space.specs.declared.node.Node.{Node}
use Rattle.plan_space.specs.declared.part_sums.PartSum.{PartSum}
use Rattle.plan_space.specs.Parts.{PartsShape, nth_plan, node_at, IsSameNode}

-- a node may be the outermost one of a plan of its set
pub record StandsAlone (block : BlockTree) (node : Node) : Type 0 where
  pub stands : Stands block node.root node.set
  pub set : IsSetOf block node.set

abbrev pub AllStandAlone : BlockTree → List Node → Type 0
AllStandAlone block nodes = (place : ℕ) → place < length nodes → StandsAlone block (node_at nodes place)

-- a node is at this place, and was there or has been added
pub record IsFoundOrAdded (before after : List Node) (node : Node) (place : ℕ) : Type 0 where
  pub more : length before ≤ length after
  pub kept : (other : ℕ) → other < length before → node_at after other ≡ node_at before other
  pub new : (other : ℕ) → length before ≤ other → other < length after → IsSameNode (node_at after other) node
  pub exists : place < length after
  pub same : IsSameNode (node_at after place) node

-- the node at this place is the outermost one of the plan, over the plan's set
pub record IsOutermostAt (nodes : List Node) (p : PlanTree) (place : ℕ) : Type 0 where
  pub exists : place < length nodes
  pub root : (node_at nodes place).root ≡ root_of p
  pub set : (node_at nodes place).set ≡ covers_of p

-- a sum has the sides of a node; one that isn't there is that of the number behind all parts
abbrev pub HasSides : Root → (left right none : ℕ) → PartSum → Type 0
HasSides (root.Scan relation) left right none sum = (sum.left ≡ none) × (sum.right ≡ none)
HasSides (root.IndexScan relation column) left right none sum = (sum.left ≡ none) × (sum.right ≡ none)
HasSides (root.Nest set) left right none sum = (sum.left ≡ left) × (sum.right ≡ right)
HasSides (root.Hash edge set) left right none sum = (sum.left ≡ left) × (sum.right ≡ right)
HasSides (root.Merge edge set) left right none sum = (sum.left ≡ left) × (sum.right ≡ right)
HasSides (root.IndexLoop edge set relation) left right none sum = (sum.left ≡ left) × (sum.right ≡ none)

-- a side is the part of this number, which is below another one
pub record IsSideBelow (parts : List PlanTree) (side : PlanTree) (number end : ℕ) : Type 0 where
  pub below : number < end
  pub is : nth_plan parts number ≡ side

-- the sides of a plan are the parts of these numbers; one that isn't there has the number behind all parts
abbrev pub AreSidesAt : List PlanTree → PlanTree → (left right end : ℕ) → Type 0
AreSidesAt parts (Scan relation) left right end = (left ≡ length parts) × (right ≡ length parts)
AreSidesAt parts (IndexScan relation column) left right end = (left ≡ length parts) × (right ≡ length parts)
AreSidesAt parts (Nest l r) left right end = IsSideBelow parts l left end × IsSideBelow parts r right end
AreSidesAt parts (Hash edge l r) left right end = IsSideBelow parts l left end × IsSideBelow parts r right end
AreSidesAt parts (Merge edge l r) left right end = IsSideBelow parts l left end × IsSideBelow parts r right end
AreSidesAt parts (IndexLoop edge l relation) left right end = IsSideBelow parts l left end × (right ≡ length parts)

-- the part of a number as a sum: its node is one of these, and its sides come before it
pub record IsPartSum (parts : List PlanTree) (nodes : List Node) (sum : PartSum) (number : ℕ) : Type 0 where
  pub node : IsOutermostAt nodes (nth_plan parts number) sum.node
  pub sides : AreSidesAt parts (nth_plan parts number) sum.left sum.right number

-- the sum of this number
abbrev pub sum_at : List PartSum → (number : ℕ) → PartSum
sum_at sums number = slice_index_or sums number (record { node = 0; left = 0; right = 0 })

-- the parts whose numbers are below the end, as sums
pub record ArePartSums (parts : PartsShape) (nodes : List Node) (sums : List PartSum) (end : ℕ) : Type 0 where
  pub long : length sums ≡ end
  pub stand : AllStandAlone (block_tree parts.block) nodes
  pub each : (number : ℕ) → number < end → IsPartSum parts.plans nodes (sum_at sums number) number

-- what nodes cost by themselves
abbrev pub AreOwnCosts : Pricing → List Node → (costs : List ℕ) → (end : ℕ) → Type 0
AreOwnCosts at nodes costs end = (place : ℕ) → place < end → IsPrice at (node_at nodes place).root (node_at nodes place).set (slice_index costs place)

-- a cost for each part, and 0 behind them for a side that isn't there
pub record HasCosts (parts : List PlanTree) (costs : List ℕ) : Type 0 where
  pub long : length costs ≡ length parts + 1
  pub none : slice_index costs (length parts) ≡ 0
  pub bound : All (λ cost. cost < cost_bound) costs
