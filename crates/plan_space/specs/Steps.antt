-- What each step of the search for a set's entry has considered.
use Rattle.std.specs.Prelude.{◌≡◌, ℕ}
use Rattle.plan_tree.specs.declared.roots.Root.{Root}
use Rattle.plan_tree.specs.declared.roots.Root.TheVariants as root
use Rattle.plan_space.specs.declared.entry.Entry.{Entry}
use Rattle.plan_tree.specs.Roots.{Stands}
use Rattle.plan_space.specs.Table.{offered, NotLater}
use Rattle.plan_space.specs.Search.{SearchShape, IsFound}
use Rattle.cost_model.specs.Prices.{own_at, block_at}

-- some nodes
abbrev pub Group : Type 1
Group = Root → Type 0

-- joins by an edge that is so, with this left side
abbrev pub HasEdge : (IsSo : ℕ → Type 0) → (left : ℕ) → Group
HasEdge IsSo left (root.Scan relation) = ⊥
HasEdge IsSo left (root.IndexScan relation column) = ⊥
HasEdge IsSo left (root.Nest side) = ⊥
HasEdge IsSo left (root.Hash number side) = IsSo number × (side ≡ left)
HasEdge IsSo left (root.Merge number side) = IsSo number × (side ≡ left)
HasEdge IsSo left (root.IndexLoop number side relation) = IsSo number × (side ≡ left)

-- all joins whose left side is so
abbrev pub HasLeft : (IsSo : ℕ → Type 0) → Group
HasLeft IsSo (root.Scan relation) = ⊥
HasLeft IsSo (root.IndexScan relation column) = ⊥
HasLeft IsSo (root.Nest side) = IsSo side
HasLeft IsSo (root.Hash number side) = IsSo side
HasLeft IsSo (root.Merge number side) = IsSo side
HasLeft IsSo (root.IndexLoop number side relation) = IsSo side

-- all ways to read a relation
abbrev pub ReadsRelation : Group
ReadsRelation (root.Scan relation) = Unit {0}
ReadsRelation (root.IndexScan relation column) = Unit {0}
ReadsRelation (root.Nest side) = ⊥
ReadsRelation (root.Hash number side) = ⊥
ReadsRelation (root.Merge number side) = ⊥
ReadsRelation (root.IndexLoop number side relation) = ⊥

-- after the step an entry is kept that is a node over entries where the one before was, and that is not later than the one
-- before, nor than any node of a group
pub record Considers (sought : SearchShape) (group : Group) (before after : Entry) : Type 0 where
  pub kept : IsFound sought before → IsFound sought after
  pub found : NotLater after before
  pub all : (node : Root) → group node → Stands (block_at sought.at) node sought.set
      → NotLater after (offered (own_at sought.at) sought.table node sought.set)

-- look-ups by one edge with this left side
abbrev pub IsLookUpBy : (edge left : ℕ) → Group
IsLookUpBy edge left (root.Scan relation) = ⊥
IsLookUpBy edge left (root.IndexScan relation column) = ⊥
IsLookUpBy edge left (root.Nest side) = ⊥
IsLookUpBy edge left (root.Hash number side) = ⊥
IsLookUpBy edge left (root.Merge number side) = ⊥
IsLookUpBy edge left (root.IndexLoop number side relation) = (number ≡ edge) × (side ≡ left)
