-- How many rows an index leads to.
use Rattle.std.proofs.Common.{◌≡◌, ℕ, length, filter, ap, ◌∙◌}
use Rattle.query_block.specs.Blocks.{RelationTree}
use Rattle.query_block.specs.Meaning.{meets_filter}
use Rattle.btree_index.specs.Entries.{HaveWords, is_within}
use Rattle.plan_tree.specs.declared.range.WordRange.{WordRange}
use Rattle.plan_tree.specs.Ranges.{Finds}
use Rattle.btree_index.specs.Height.{height_of}
use Rattle.plan_tree.specs.Usable.{is_fixed_usable}
use Rattle.plan_tree.specs.Work.{height_in, matches_in}
use Rattle.db_catalog.specs.Database.{DatabaseState, StandAsWords}
use Rattle.db_catalog.specs.Fits.{FitsTable}
use Rattle.db_catalog.specs.Indexes.{index_at, index_height}
use Rattle.db_catalog.proofs.IndexEntries.{count-entries, count-read}
use Rattle.db_catalog.proofs.Picked.{in-range}

-- the entries of a range are as many as there are matches
pub matches-are : (database : DatabaseState) (own : RelationTree) → FitsTable database own → (column : ℕ) (range : WordRange)
    → Finds database.texts own.columns column range (filter (is_fixed_usable own.columns column) own.filter) → HaveWords (index_at database own.table column) → StandAsWords database own.table
    → length (filter (is_within range.from range.to) (index_at database own.table column)) ≡ matches_in database.tables own column
matches-are database own fits column range finds words stand =
    let wanted = meets_filter (filter (is_fixed_usable own.columns column) own.filter) in
    ap length (in-range database own fits column range.from range.to wanted finds words stand)
    ∙ count-read database own.table column wanted

-- the height of an index is that of as many entries as the column has values
pub height-are : (database : DatabaseState) (own : RelationTree) (column : ℕ) → index_height database own.table column ≡ height_in database.tables own column
height-are database own column = ap height_of (count-entries database own.table column)
