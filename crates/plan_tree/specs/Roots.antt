-- The outermost nodes of plans, by the sets of their sides.
use Rattle.std.specs.Prelude.{◌≡◌, ℕ, ◌-◌, ◌^◌, ◌<◌, ◌≤◌, ◌&&◌, Bool, IsTrue, List, [], ◌∷◌, bit_and, length, nat_eq, nat_le, nat_lt}
use Rattle.query_block.specs.declared.edge.Edge.{Edge}
use Rattle.query_block.specs.Blocks.{BlockTree, relation_at}
use Rattle.plan_tree.specs.Plans.{PlanTree, Scan, IndexScan, Nest, Hash, Merge, IndexLoop, covers_of}
use Rattle.plan_tree.specs.Enumerated.{edge_at, column_on, is_indexed, has_usable, IsIndexed, IsScannable}
use Rattle.plan_tree.specs.Sets.{set_of, is_between}
use Rattle.plan_tree.specs.declared.roots.Root.{Root}
use Rattle.plan_tree.specs.declared.roots.Root.TheVariants as root

-- of a plan
abbrev pub root_of : PlanTree → Root
root_of (Scan relation) = root.Scan relation
root_of (IndexScan relation column) = root.IndexScan relation column
root_of (Nest left right) = root.Nest (covers_of left)
root_of (Hash edge left right) = root.Hash edge (covers_of left)
root_of (Merge edge left right) = root.Merge edge (covers_of left)
root_of (IndexLoop edge left relation) = root.IndexLoop edge (covers_of left) relation

-- what plan order compares of it
abbrev pub root_numbers : Root → List ℕ
root_numbers (root.Scan relation) = 0 ∷ 0 ∷ relation ∷ 0 ∷ 0 ∷ []
root_numbers (root.IndexScan relation column) = 1 ∷ 0 ∷ relation ∷ column ∷ 0 ∷ []
root_numbers (root.Nest left) = 2 ∷ 0 ∷ 0 ∷ 0 ∷ left ∷ []
root_numbers (root.Hash edge left) = 3 ∷ edge ∷ 0 ∷ 0 ∷ left ∷ []
root_numbers (root.Merge edge left) = 4 ∷ edge ∷ 0 ∷ 0 ∷ left ∷ []
root_numbers (root.IndexLoop edge left relation) = 5 ∷ edge ∷ 0 ∷ 0 ∷ left ∷ []

-- a set without its left side is a right side: neither is empty, and they share no relation
pub record IsSplit (left set : ℕ) : Type 0 where
  pub some : 1 ≤ left
  pub less : left < set
  pub apart : bit_and left (set - left) ≡ 0

-- the edge exists and crosses the two sides
pub record IsCrossed (edges : List Edge) (edge left right : ℕ) : Type 0 where
  pub exists : edge < length edges
  pub crosses : IsTrue (is_between (set_of left) (set_of right) (edge_at edges edge))

-- the right side is one relation, with an index on its column of the edge
pub record IsLookedUp (block : BlockTree) (edge right relation : ℕ) : Type 0 where
  pub one : right ≡ 2 ^ relation
  pub exists : relation < length block.relations
  pub indexed : IsIndexed (relation_at block.relations relation) (column_on (edge_at block.edges edge) relation)

-- the node may be the outermost one of a plan of the set
abbrev pub Stands : BlockTree → Root → (set : ℕ) → Type 0
Stands block (root.Scan relation) set = (relation < length block.relations) × (set ≡ 2 ^ relation)
Stands block (root.IndexScan relation column) set = IsScannable block relation column × (set ≡ 2 ^ relation)
Stands block (root.Nest left) set = IsSplit left set
Stands block (root.Hash edge left) set = IsSplit left set × IsCrossed block.edges edge left (set - left)
Stands block (root.Merge edge left) set = IsSplit left set × IsCrossed block.edges edge left (set - left)
Stands block (root.IndexLoop edge left relation) set =
    IsSplit left set × IsCrossed block.edges edge left (set - left) × IsLookedUp block edge (set - left) relation

-- the same as tests
abbrev pub is_split : (left set : ℕ) → Bool
is_split left set = nat_le 1 left && nat_lt left set && nat_eq (bit_and left (set - left)) 0

abbrev pub is_joined : BlockTree → (set edge left : ℕ) → Bool
is_joined block set edge left =
    is_split left set && (nat_lt edge (length block.edges) && is_between (set_of left) (set_of (set - left)) (edge_at block.edges edge))

abbrev pub stands : BlockTree → (set : ℕ) → Root → Bool
stands block set (root.Scan relation) = nat_lt relation (length block.relations) && nat_eq set (2 ^ relation)
stands block set (root.IndexScan relation column) =
    let tree = relation_at block.relations relation in
    (nat_lt relation (length block.relations) && is_indexed tree column && has_usable tree column) && nat_eq set (2 ^ relation)
stands block set (root.Nest left) = is_split left set
stands block set (root.Hash edge left) = is_joined block set edge left
stands block set (root.Merge edge left) = is_joined block set edge left
stands block set (root.IndexLoop edge left relation) =
    is_joined block set edge left
    && (nat_lt relation (length block.relations) && nat_eq (set - left) (2 ^ relation)
    && is_indexed (relation_at block.relations relation) (column_on (edge_at block.edges edge) relation))
