-- A filter whose fixed conjuncts are found.
use Rattle.std.specs.Prelude.{◌≡◌, ℤ, All, Bool, List, map}
use Rattle.sql_values.specs.Stored.{ValueRow, values_of}
use Rattle.query_block.specs.declared.kind.Kind.{Kind}
use Rattle.query_block.specs.Conditions.{FilterTree, filter_tree}
use Rattle.query_block.specs.Blocks.{IsRelation, RelationTree, relation_tree}
use Rattle.query_block.specs.Meaning.{meets_filter}
use Rattle.query_block.specs.Parameters.{fixed_of}
use Rattle.row_filter.specs.InLists.{IsConditionRecheck}
use Rattle.table_stats.specs.declared.filter.FixedConjunct.{FixedConjunct}
use Rattle.table_stats.specs.declared.filter.ReadyFilter.{ReadyFilter}

-- the condition of a conjunct
abbrev pub own_tree : FixedConjunct → FilterTree
own_tree conjunct = filter_tree conjunct.condition.now

-- a relation of some block, whose parameters are of these kinds
pub record IsOfBlock (relation : RelationTree) : Type 0 where
  pub kinds : List Kind
  pub is : IsRelation kinds relation

-- the relation whose filter it is
abbrev pub own : ReadyFilter → RelationTree
own filter = relation_tree filter.relation.now

-- whether each fixed conjunct of the filter is true on a row
abbrev pub is_kept : ReadyFilter → ValueRow → Bool
is_kept filter row = meets_filter (fixed_of (own filter).filter) row

-- the values for which the words of a row of that relation stand
abbrev pub own_values : ReadyFilter → List ℤ → ValueRow
own_values filter words = values_of filter.texts.now filter.relation.now.columns words

-- it is of a relation of a block, and its conjuncts are the fixed ones of the relation's filter, in order, made ready
pub record IsReadyFilter (filter : ReadyFilter) : Type 0 where
  pub relation : IsOfBlock (own filter)
  pub fixed : map own_tree filter.conjuncts.items ≡ fixed_of (own filter).filter
  pub rechecks : All (λ conjunct. IsConditionRecheck filter.texts.now filter.relation.now.columns (own_tree conjunct) conjunct.recheck) filter.conjuncts.items
