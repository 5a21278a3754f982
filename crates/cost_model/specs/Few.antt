-- Bounds of the counts of a relation and of its indexed columns.
use Rattle.std.specs.Prelude.{◌≤◌, All, unwrap_or}
use Rattle.sql_values.specs.Limits.{max_rows}
use Rattle.cost_model.specs.declared.stats.RelationStats.{RelationStats}
use Rattle.cost_model.specs.declared.stats.IndexStats.{IndexStats}

pub record IsFewIndex (index : IndexStats) : Type 0 where
  pub height : index.height ≤ 4
  pub matches : unwrap_or index.matches 0 ≤ max_rows

pub record AreFew (stats : RelationStats) : Type 0 where
  pub rows : stats.rows ≤ max_rows
  pub pages : stats.pages ≤ max_rows
  pub columns : All IsFewIndex stats.columns
