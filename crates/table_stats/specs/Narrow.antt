-- What the counts of indexes tell of the fixed conjuncts of a filter.
use Rattle.std.specs.Prelude.{◌≡◌, ℕ, Bool, Contains, IsTrue, List, Some}
use Rattle.std.specs.List.{list_all, list_any}
use Rattle.query_block.specs.Blocks.{RelationTree}
use Rattle.query_block.specs.Parameters.{fixed_of}
use Rattle.plan_tree.specs.Usable.{is_usable}
use Rattle.cost_model.specs.declared.stats.IndexStats.{IndexStats}

-- some fixed conjunct is usable on the column
abbrev pub uses_some : RelationTree → (column : ℕ) → Bool
uses_some relation column = list_any (is_usable relation.columns column) (fixed_of relation.filter)

-- every fixed conjunct is usable on the column
abbrev pub uses_all : RelationTree → (column : ℕ) → Bool
uses_all relation column = list_all (is_usable relation.columns column) (fixed_of relation.filter)

-- so many matches has one of these, on whose column every fixed conjunct is usable
pub record TellsAll (relation : RelationTree) (columns : List IndexStats) (matches : ℕ) : Type 0 where
  pub index : IndexStats
  pub there : Contains columns index
  pub counted : index.matches ≡ Some matches
  pub usable : IsTrue (uses_all relation index.column)
