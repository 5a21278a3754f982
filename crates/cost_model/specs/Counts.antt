-- The exact counts of a block's tables.
use Rattle.std.specs.Prelude.{ℕ, List, count_by, length, map, Some, None, if◌then◌else◌}
use Rattle.std.specs.List.{list_any}
use Rattle.sql_values.specs.Stored.{StoredTable}
use Rattle.query_block.specs.Parameters.{fixed_of}
use Rattle.query_block.specs.Blocks.{RelationTree, BlockTree}
use Rattle.query_block.specs.Meaning.{meets_filter}
use Rattle.plan_tree.specs.Usable.{is_usable}
use Rattle.plan_tree.specs.Work.{table_rows, pages_in, height_in, matches_in}
use Rattle.cost_model.specs.declared.stats.Stats.{Stats}
use Rattle.cost_model.specs.declared.stats.RelationStats.{RelationStats}
use Rattle.cost_model.specs.declared.stats.IndexStats.{IndexStats}

-- of an indexed column: matches where some conjunct is usable on it
abbrev pub index_stats_of : List StoredTable → RelationTree → (column : ℕ) → IndexStats
index_stats_of tables relation column = record {
  column = column;
  height = height_in tables relation column;
  matches = if list_any (is_usable relation.columns column) relation.filter then Some (matches_in tables relation column) else None;
}

-- of a relation: kept where each fixed conjunct is true
abbrev pub relation_stats_of : List StoredTable → RelationTree → RelationStats
relation_stats_of tables relation = record {
  rows = length (table_rows tables relation);
  pages = pages_in tables relation;
  kept = count_by (meets_filter (fixed_of relation.filter)) (table_rows tables relation);
  columns = map (index_stats_of tables relation) relation.indexes;
}

-- of all relations of a block
abbrev pub stats_of : List StoredTable → BlockTree → Stats
stats_of tables block = record { relations = map (relation_stats_of tables) block.relations }
