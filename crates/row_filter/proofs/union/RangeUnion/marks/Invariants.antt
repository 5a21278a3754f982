use Rattle.std.proofs.Common.{◌≡◌, Bool, List, map, take}
use Rattle.std.specs.List.{AllZip}
use Rattle.sql_values.specs.Stored.{ValueRow}
use Rattle.narrow_columns.specs.Marks.{marks_of}
use Rattle.heap_pages.specs.Spans.{rows_of_span}
use Rattle.db_catalog.specs.Database.{table_at}
use Rattle.row_filter.specs.Regions.{IsRegionIn}
use Rattle.row_filter.specs.Unions.{passes_any}
use Rattle.row_filter.proofs.union.RangeUnion.marks.Given as goal

-- the rows are marked that pass one of the tests of the regions before
abbrev pub invariant-loop-region : goal.invariant-loop-region
invariant-loop-region g l =
    let database = g.R.RowMarks.database l.rows in
    (tests : List (ValueRow → Bool)) → AllZip (IsRegionIn database l.table) tests l.region-items
    → l.marks ≡ marks_of (map (passes_any (take l.region-index tests)) (rows_of_span l.span (table_at database l.table).rows))
