use Rattle.std.proofs.Common.{◌≡◌, Bool, List, map, take}
use Rattle.std.specs.List.{AllZip}
use Rattle.sql_values.specs.Stored.{ValueRow}
use Rattle.narrow_columns.specs.Marks.{marks_of}
use Rattle.db_catalog.specs.Database.{table_at}
use Rattle.row_filter.specs.Unions.{IsUnionIn}
use Rattle.heap_pages.specs.Spans.{rows_of_span}
use Rattle.row_filter.specs.RowFilters.{passes_all}
use Rattle.row_filter.proofs.filter.RowFilter.marks.Given as goal

-- the rows are marked that pass the tests of the unions before
abbrev pub invariant-loop-union : goal.invariant-loop-union
invariant-loop-union g l =
    let database = g.R.RowMarks.database l.rows in
    (tests : List (ValueRow → Bool)) → AllZip (IsUnionIn database l.table) tests l.union-items
    → l.marks ≡ marks_of (map (passes_all (take l.union-index tests)) (rows_of_span l.span (table_at database l.table).rows))
