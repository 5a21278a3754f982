-- Whether counts are still those of the tables.
use Rattle.std.specs.Prelude.{ℕ, ◌+◌, List, [], ◌∷◌, length, Option, None}
use Rattle.std.specs.Option.{option_or}
use Rattle.query_block.specs.Blocks.{RelationTree}
use Rattle.db_catalog.specs.Database.{DatabaseState, table_at}
use Rattle.cost_model.specs.declared.stats.RelationStats.{RelationStats}
use Rattle.cost_model.specs.declared.stale.CountName.TheVariants.{Rows, Indexes}
use Rattle.cost_model.specs.declared.stale.Stale.{Stale}
use Rattle.cost_model.specs.Staleness.{changed}

-- of a relation: the rows of its table, then how many of the table's columns are indexed
abbrev pub stale_in : DatabaseState → (number : ℕ) → RelationTree → RelationStats → Option Stale
stale_in database number relation stats =
    let table = table_at database relation.table in
    option_or (changed number Rows stats.rows (length table.rows)) (changed number Indexes (length stats.columns) (length table.indexed))

-- the first count that isn't what it was, of relations in FROM order, the first of which has this number
abbrev pub first_stale : DatabaseState → (number : ℕ) → List RelationTree → List RelationStats → Option Stale
first_stale database number [] stats = None
first_stale database number (relation ∷ relations) [] = None
first_stale database number (relation ∷ relations) (one ∷ more) =
    option_or (stale_in database number relation one) (first_stale database (number + 1) relations more)
