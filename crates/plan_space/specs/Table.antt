-- The table that is filled: for each set of relations the cheapest way to join it, by the entries of smaller sets. What a
-- node costs by itself is a function of the node and the set.
use Rattle.std.specs.Prelude.{◌≡◌, ℕ, ◌+◌, ◌-◌, ◌*◌, ◌^◌, ◌<◌, ◌≤◌, List, ◌∷◌, length, slice_index_or, false}
use Rattle.std.specs.Ordering.{nat_cmp, is_gt}
use Rattle.std.specs.Cmp.Lexicographic.{slice_cmp}
use Rattle.query_block.specs.Blocks.{BlockTree}
use Rattle.plan_tree.specs.Plans.{PlanTree, Scan, IndexScan, Nest, Hash, Merge, IndexLoop, covers_of}
use Rattle.plan_tree.specs.declared.roots.Root.{Root}
use Rattle.plan_tree.specs.declared.roots.Root.TheVariants as root
use Rattle.plan_space.specs.declared.entry.Entry.{Entry}
use Rattle.plan_tree.specs.Roots.{root_numbers, Stands}
use Rattle.cost_model.specs.Prices.{OwnCost, IsSetOf}

-- the entry of a set
abbrev pub entry_at : List Entry → (set : ℕ) → Entry
entry_at table set = slice_index_or table set (record { cost = 0; root = root.Scan 0 })

-- what the plans of the sides of a node cost
abbrev pub side_costs : List Entry → Root → (set : ℕ) → ℕ
side_costs table (root.Scan relation) set = 0
side_costs table (root.IndexScan relation column) set = 0
side_costs table (root.Nest left) set = (entry_at table left).cost + (entry_at table (set - left)).cost
side_costs table (root.Hash edge left) set = (entry_at table left).cost + (entry_at table (set - left)).cost
side_costs table (root.Merge edge left) set = (entry_at table left).cost + (entry_at table (set - left)).cost
side_costs table (root.IndexLoop edge left relation) set = (entry_at table left).cost

-- a node over the entries of its sides, as an entry
abbrev pub offered : OwnCost → List Entry → Root → (set : ℕ) → Entry
offered own table node set = record { cost = side_costs table node set + own node set; root = node }

-- what is compared of entries: the cost, and where it is equal what plan order compares of the outermost node
abbrev pub rank : Entry → List ℕ
rank entry = entry.cost ∷ root_numbers entry.root

abbrev pub NotLater : Entry → Entry → Type 0
NotLater entry other = is_gt (slice_cmp nat_cmp (rank entry) (rank other)) ≡ false

-- the entry of a set is a node over the entries of its sides, and its cost is far from the end of 128 bits
pub record IsOffered (own : OwnCost) (block : BlockTree) (table : List Entry) (set : ℕ) (entry : Entry) : Type 0 where
  pub stands : Stands block entry.root set
  pub cost : entry.cost ≡ side_costs table entry.root set + own entry.root set
  pub bound : entry.cost + 2 ^ 108 ≤ 2 ^ 108 * (2 * set)

-- no other node over the entries of its sides is before it
pub record IsLeast (own : OwnCost) (block : BlockTree) (table : List Entry) (set : ℕ) (entry : Entry) : Type 0 where
  pub kept : IsOffered own block table set entry
  pub least : (node : Root) → Stands block node set → NotLater entry (offered own table node set)

-- the entries of all sets that are numbers below the end
abbrev pub AreLeast : OwnCost → BlockTree → List Entry → (end : ℕ) → Type 0
AreLeast own block table end = (set : ℕ) → 1 ≤ set → set < end → IsLeast own block table set (entry_at table set)

-- the node of each set of the block's relations may be the outermost one of a plan of the set
abbrev pub AllStand : BlockTree → List Entry → Type 0
AllStand block table = (set : ℕ) → 1 ≤ set → set < 2 ^ length block.relations → Stands block (entry_at table set).root set

-- a set of the block's relations that has an entry
pub record HasEntry (block : BlockTree) (set : ℕ) : Type 0 where
  pub some : 1 ≤ set
  pub below : IsSetOf block set
  pub small : set < 64

-- the plan has in each node the entry of the node's set
abbrev pub Follows : List Entry → PlanTree → (set : ℕ) → Type 0
Follows table (Scan relation) set = (entry_at table set).root ≡ root.Scan relation
Follows table (IndexScan relation column) set = (entry_at table set).root ≡ root.IndexScan relation column
Follows table (Nest left right) set =
    ((entry_at table set).root ≡ root.Nest (covers_of left))
    × Follows table left (covers_of left) × Follows table right (set - covers_of left)
Follows table (Hash edge left right) set =
    ((entry_at table set).root ≡ root.Hash edge (covers_of left))
    × Follows table left (covers_of left) × Follows table right (set - covers_of left)
Follows table (Merge edge left right) set =
    ((entry_at table set).root ≡ root.Merge edge (covers_of left))
    × Follows table left (covers_of left) × Follows table right (set - covers_of left)
Follows table (IndexLoop edge left relation) set =
    ((entry_at table set).root ≡ root.IndexLoop edge (covers_of left) relation) × Follows table left (covers_of left)

-- it is the plan of the set that the entries tell
pub record IsToldPlan (table : List Entry) (p : PlanTree) (set : ℕ) : Type 0 where
  pub follows : Follows table p set
  pub covers : covers_of p ≡ set
