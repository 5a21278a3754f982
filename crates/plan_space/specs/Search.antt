-- What is seen of the search for the entry of a set.
use Rattle.std.specs.Prelude.{ℕ, ◌+◌, ◌-◌, ◌^◌, ◌<◌, ◌≤◌, List, length}
use Rattle.query_block.specs.Blocks.{BlockTree}
use Rattle.plan_tree.specs.Roots.{IsSplit, IsCrossed}
use Rattle.plan_space.specs.declared.entry.Entry.{Entry}
use Rattle.plan_space.specs.Table.{IsOffered, IsLeast, AreLeast}
use Rattle.cost_model.specs.Pricing.{Pricing}
use Rattle.cost_model.specs.Prices.{IsSetOf, own_at, block_at}

-- at which prices, by which entries, and of which set
pub record SearchShape : Type 0 where
  pub at : Pricing
  pub table : List Entry
  pub set : ℕ

-- the entries of all smaller sets are least
pub record IsFilledBelow (sought : SearchShape) : Type 0 where
  pub some : 1 ≤ sought.set
  pub below : IsSetOf (block_at sought.at) sought.set
  pub small : sought.set < 64
  pub filled : AreLeast (own_at sought.at) (block_at sought.at) sought.table sought.set

-- the entry is a node over the entries of its sides
abbrev pub IsFound : SearchShape → Entry → Type 0
IsFound sought = IsOffered (own_at sought.at) (block_at sought.at) sought.table sought.set

-- it is the entry of the set
abbrev pub IsLeastFound : SearchShape → Entry → Type 0
IsLeastFound sought = IsLeast (own_at sought.at) (block_at sought.at) sought.table sought.set

-- the edge joins the left side with the rest of the set
abbrev pub JoinsSides : SearchShape → (edge left : ℕ) → Type 0
JoinsSides sought edge left =
    IsSplit left sought.set × IsCrossed (block_at sought.at).edges edge left (sought.set - left)

-- the relation is the highest one of a set
pub record IsHighestOf (block : BlockTree) (set relation : ℕ) : Type 0 where
  pub exists : relation < length block.relations
  pub least : 2 ^ relation ≤ set
  pub highest : set < 2 ^ (relation + 1)
