-- When counts are those of a block: of its relations and indexed columns, and within the limits.
use Rattle.std.specs.Prelude.{◌≡◌, ◌↔◌, ℕ, ◌*◌, ◌≤◌, max, List, [], ◌∷◌, All, IfSome, IsSome, map}
use Rattle.std.specs.List.{AllZip}
use Rattle.sql_values.specs.Limits.{max_rows, max_product}
use Rattle.query_block.specs.Blocks.{RelationTree, BlockTree}
use Rattle.plan_tree.specs.Enumerated.{HasUsable}
use Rattle.cost_model.specs.declared.stats.Stats.{Stats}
use Rattle.cost_model.specs.declared.stats.RelationStats.{RelationStats}
use Rattle.cost_model.specs.declared.stats.IndexStats.{IndexStats}

-- an index has 1 to 4 levels; its matches are counted exactly where it has a usable conjunct, and are among the rows
pub record FitsIndex (relation : RelationTree) (rows : ℕ) (index : IndexStats) : Type 0 where
  pub some_height : 1 ≤ index.height
  pub low : index.height ≤ 4
  pub counted : IsSome index.matches ↔ HasUsable relation index.column
  pub matches : IfSome index.matches (λ matches. matches ≤ rows)

-- counts of a relation, with one for each of its indexed columns
pub record FitsRelation (relation : RelationTree) (stats : RelationStats) : Type 0 where
  pub rows : stats.rows ≤ max_rows
  pub pages : stats.pages ≤ stats.rows
  pub kept : stats.kept ≤ stats.rows
  pub indexes : map (λ index. index.column) stats.columns ≡ relation.indexes
  pub columns : All (FitsIndex relation stats.rows) stats.columns

-- how many combinations of one row of each relation there are at most, a table without rows counted as one row
abbrev pub row_product : List RelationStats → ℕ
row_product [] = 1
row_product (stats ∷ more) = max 1 stats.rows * row_product more

-- counts of each relation, of not too many combinations
pub record FitsBlock (block : BlockTree) (stats : Stats) : Type 0 where
  pub relations : AllZip FitsRelation block.relations stats.relations
  pub product : row_product stats.relations ≤ max_product
