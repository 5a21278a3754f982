-- All plans of a block, each once, in plan order.
use Rattle.std.specs.Prelude.{ℕ, zero, suc, ◌+◌, ◌-◌, ◌^◌, ◌++◌, List, [], ◌∷◌, filter, map, max, length, slice_index_or, if◌then◌else◌}
use Rattle.std.specs.List.{flat_map, range_with_len}
use Rattle.query_block.specs.declared.edge.Edge.{Edge}
use Rattle.query_block.specs.Blocks.{BlockTree, relation_at}
use Rattle.query_block.specs.Meaning.{RelationSet}
use Rattle.plan_tree.specs.declared.roots.Root.{Root}
use Rattle.plan_tree.specs.declared.roots.Root.TheVariants as root
use Rattle.plan_tree.specs.Plans.{PlanTree, Scan, IndexScan, Nest, Hash, Merge, IndexLoop}
use Rattle.plan_tree.specs.Sets.{set_of}
use Rattle.plan_tree.specs.Enumerated.{edge_at}
use Rattle.plan_tree.specs.Roots.{stands}

-- one more than the greatest of some columns; 0 where there is none
abbrev pub end_of_columns : List ℕ → ℕ
end_of_columns [] = 0
end_of_columns (column ∷ more) = max (column + 1) (end_of_columns more)

-- the relation of an edge that isn't on the left, where the other one is
abbrev pub far_end : Edge → (left : RelationSet) → ℕ
far_end edge left = if left edge.left then edge.right else edge.left

-- a node for each number below an end
abbrev pub one_each : (ℕ → Root) → (end : ℕ) → List Root
one_each node end = flat_map (λ number. node number ∷ []) (range_with_len 0 end)

-- the nodes that are tried: scans; index scans of a relation by each column up to the last indexed one, and of all
abbrev pub scans_of : BlockTree → List Root
scans_of block = one_each (λ relation. root.Scan relation) (length block.relations)

abbrev pub column_scans : BlockTree → (relation : ℕ) → List Root
column_scans block relation =
    one_each (λ column. root.IndexScan relation column) (end_of_columns (relation_at block.relations relation).indexes)

abbrev pub index_scans_of : BlockTree → List Root
index_scans_of block = flat_map (column_scans block) (range_with_len 0 (length block.relations))

-- nested loops with each left side; joins by each edge with each left side
abbrev pub nests_of : (set : ℕ) → List Root
nests_of set = one_each (λ left. root.Nest left) set

abbrev pub joins_by : BlockTree → (join : (edge left : ℕ) → Root) → (set : ℕ) → List Root
joins_by block join set = flat_map (λ edge. one_each (join edge) set) (range_with_len 0 (length block.edges))

abbrev pub index_loop_by : BlockTree → (edge left : ℕ) → Root
index_loop_by block edge left = root.IndexLoop edge left (far_end (edge_at block.edges edge) (set_of left))

-- those of some nodes that may stand over a set
abbrev pub standing : BlockTree → (set : ℕ) → List Root → List Root
standing block set nodes = filter (stands block set) nodes

-- the outermost nodes of the plans of a set, in plan order: by their kinds, then by the edge, then by the left side
unfoldable pub roots_of : BlockTree → (set : ℕ) → List Root
roots_of block set =
    standing block set
    (scans_of block ++ index_scans_of block ++ nests_of set
    ++ joins_by block (λ edge left. root.Hash edge left) set
    ++ joins_by block (λ edge left. root.Merge edge left) set
    ++ joins_by block (index_loop_by block) set)

-- each left plan with each right plan
abbrev pub pairs_by : (PlanTree → PlanTree → PlanTree) → (lefts rights : List PlanTree) → List PlanTree
pairs_by join lefts rights = flat_map (λ left. map (join left) rights) lefts

-- the plans of a set with this outermost node, by those of its sides
abbrev pub trees_of : (plans : ℕ → List PlanTree) → (set : ℕ) → Root → List PlanTree
trees_of plans set (root.Scan relation) = Scan relation ∷ []
trees_of plans set (root.IndexScan relation column) = IndexScan relation column ∷ []
trees_of plans set (root.Nest left) = pairs_by Nest (plans left) (plans (set - left))
trees_of plans set (root.Hash edge left) = pairs_by (Hash edge) (plans left) (plans (set - left))
trees_of plans set (root.Merge edge left) = pairs_by (Merge edge) (plans left) (plans (set - left))
trees_of plans set (root.IndexLoop edge left relation) = map (λ p. IndexLoop edge p relation) (plans left)

-- the list at this place; beyond the end no plans
abbrev pub plans_at : List (List PlanTree) → (set : ℕ) → List PlanTree
plans_at lists set = slice_index_or lists set []

-- the plans of a set, where those of each smaller set are given
abbrev pub plans_over : BlockTree → (smaller : List (List PlanTree)) → (set : ℕ) → List PlanTree
plans_over block smaller set = flat_map (trees_of (plans_at smaller) set) (roots_of block set)

-- of each set below a number its plans: sets are numbers, bit r for relation r, and the sides of a set are smaller numbers
unfoldable pub plans_below : BlockTree → (end : ℕ) → List (List PlanTree)
plans_below block zero = []
plans_below block (suc set) = plans_below block set ++ (plans_over block (plans_below block set) set ∷ [])

-- all plans of a block, in plan order: the last list, of the set of all relations
abbrev pub plans_of : BlockTree → List PlanTree
plans_of block =
    let count = length block.relations in
    plans_at (plans_below block (2 ^ count)) (2 ^ count - 1)
