-- How the plans of sets are counted and put together from those of smaller sets.
use Rattle.std.specs.Prelude.{◌≡◌, ℕ, ◌<◌, ◌≤◌, ◌++◌, List, Vec, length, map}
use Rattle.std.specs.Global.{Global}
use Rattle.query_block.specs.Blocks.{BlockTree}
use Rattle.plan_tree.specs.declared.roots.Root.{Root}
use Rattle.plan_tree.specs.declared.roots.Root.TheVariants as root
use Rattle.plan_tree.specs.declared.roots.EdgeJoin.{EdgeJoin}
use Rattle.plan_tree.specs.declared.roots.EdgeJoin.TheVariants as kinds
use Rattle.plan_tree.specs.declared.plan.Plan.{Plan}
use Rattle.plan_tree.specs.Plans.{PlanTree, plan_tree, Nest, Hash, Merge}
use Rattle.plan_tree.specs.Work.{capped}
use Rattle.plan_tree.specs.AllPlans.{index_loop_by, plans_at, standing}

-- so many are the plans that are put together from the lists of smaller sets, where these have so many; 2 ^ 128 - 1 stands
-- for more too
abbrev pub CountsFor : (counts : List ℕ) → (count : ℕ) → (plans : (ℕ → List PlanTree) → List PlanTree) → Type 0
CountsFor counts count plans =
    (lists : List (List PlanTree)) → counts ≡ map (λ list. capped (length list)) lists
    → count ≡ capped (length (plans (plans_at lists)))

-- a new list has the plans of the old one, and these behind them
abbrev pub Adds : (old new : Vec Plan Global) → List PlanTree → Type 0
Adds old new plans = map plan_tree new.items ≡ map plan_tree old.items ++ plans

-- this left side leaves a right side, and both are smaller numbers than the set
abbrev pub IsLeftOf : (left set : ℕ) → Type 0
IsLeftOf left set = (1 ≤ left) × (left < set)

-- the left side of a join is such a side
abbrev pub HasLeftOf : Root → (set : ℕ) → Type 0
HasLeftOf (root.Nest left) set = IsLeftOf left set
HasLeftOf (root.Hash edge left) set = IsLeftOf left set
HasLeftOf (root.Merge edge left) set = IsLeftOf left set
HasLeftOf (root.IndexLoop edge left relation) set = IsLeftOf left set
HasLeftOf leaf set = Unit {0}

-- the join of a kind by an edge with a left side
abbrev pub join_by : BlockTree → EdgeJoin → (edge left : ℕ) → Root
join_by block kinds.Hash edge left = root.Hash edge left
join_by block kinds.Merge edge left = root.Merge edge left
join_by block kinds.IndexLoop edge left = index_loop_by block edge left

-- behind the nodes of an old list a new one has those of some nodes of a block that may stand over a set
abbrev pub Puts : BlockTree → (set : ℕ) → (old new : Vec Root Global) → (nodes : BlockTree → List Root) → Type 0
Puts block set old new nodes = new.items ≡ old.items ++ standing block set (nodes block)

-- the join of two plans by a node; one that is no hash or merge join is a nested loop
abbrev pub joined_by : Root → PlanTree → PlanTree → PlanTree
joined_by (root.Hash edge side) left right = Hash edge left right
joined_by (root.Merge edge side) left right = Merge edge left right
joined_by other left right = Nest left right
