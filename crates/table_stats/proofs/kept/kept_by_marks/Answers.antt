use Rattle.std.proofs.Common.{◌≡◌, ℕ, List, subst}
use Rattle.sql_values.specs.declared.column.ColumnType.{ColumnType}
use Rattle.db_catalog.specs.Database.{DatabaseState}
use Rattle.db_catalog.specs.Fits.{FitsTable}
use Rattle.row_filter.specs.RowFilters.{FilterRanges, IsFilterOf, IsRowFilter}
use Rattle.row_filter.proofs.Fixed.{fixed-all}
use Rattle.table_stats.specs.declared.filter.ReadyFilter.{ReadyFilter}
use Rattle.table_stats.specs.Ready.{own}
use Rattle.table_stats.proofs.kept.kept_by_marks.Goals as goal

pub new-ranges-requires-clause-fit : goal.new-ranges-requires-clause-fit
new-ranges-requires-clause-fit c =
    let relation = c.requires.ready.relation in
    rw (c.as_slice.ensures, c.as_slice-2.ensures) (fixed-all relation.kinds (own c.args.filter.now).columns (own c.args.filter.now).filter relation.is.filter)

-- ranges of a relation's filter are so over its table
over : (database : DatabaseState) (filter : ReadyFilter) (ranges : FilterRanges) → filter.texts.now ≡ database.texts → FitsTable database (own filter)
    → IsRowFilter filter.texts.now (own filter).columns (own filter).filter ranges → IsFilterOf database (own filter).table (own filter).filter ranges
over database filter ranges texts fits is =
    subst (λ (kinds : List ColumnType). IsRowFilter database.texts kinds (own filter).filter ranges) fits.columns
    (subst (λ (all : List (List ℕ)). IsRowFilter all (own filter).columns (own filter).filter ranges) texts is)

pub returns-in-Some : goal.returns-in-Some
returns-in-Some c =
    let filter = c.args.filter.now in
    c.in-Some.ensures (own filter).filter
    (over c.args.db.now filter c.new-ranges.result c.requires.texts c.requires.fits (rw (c.as_slice.ensures, c.as_slice-2.ensures) at c.new-ranges.ensures))
