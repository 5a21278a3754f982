-- Over which database a filter is ready, and the rows that it is tried on.
use Rattle.std.specs.Prelude.{◌≡◌, ℕ, ◌-◌, ◌*◌, ◌≤◌, length, min}
use Rattle.sql_values.specs.Limits.{max_rows}
use Rattle.heap_pages.specs.declared.spans.RowSpan.{RowSpan}
use Rattle.query_block.specs.Blocks.{RelationTree}
use Rattle.db_catalog.specs.Database.{DatabaseState, table_at}
use Rattle.db_catalog.specs.Fits.{FitsTable}
use Rattle.table_stats.specs.declared.filter.ReadyFilter.{ReadyFilter}
use Rattle.table_stats.specs.Ready.{IsOfBlock, IsReadyFilter, own}

-- a relation of some block, which stands over its table
pub record StandsIn (database : DatabaseState) (relation : RelationTree) : Type 0 where
  pub well_formed : IsOfBlock relation
  pub fits : FitsTable database relation

-- the filter is ready, its relation stands over its table, its texts are the database's, and the table is within its limit
pub record IsOver (database : DatabaseState) (filter : ReadyFilter) : Type 0 where
  pub ready : IsReadyFilter filter
  pub fits : FitsTable database (own filter)
  pub texts : filter.texts.now ≡ database.texts
  pub few : length (table_at database (own filter).table).rows ≤ max_rows

-- of so many rows the block of this number, from 0: 64 rows, or those that are left
pub record IsRowBlock (rows block : ℕ) (span : RowSpan) : Type 0 where
  pub first : span.first ≡ block * 64
  pub count : span.count ≡ min (rows - block * 64) 64
