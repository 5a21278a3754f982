use Rattle.std.proofs.Common.{◌≡◌, ◌<◌, Bool, List, [], ◌∷◌, false, get_or, length, map, take, refl, sym, ap, ◌∙◌, arith}
use Rattle.std.proofs.lemmas.List.{take_all}
use Rattle.sql_values.specs.Stored.{ValueRow}
use Rattle.narrow_columns.specs.Marks.{marks_of}
use Rattle.heap_pages.specs.Spans.{rows_of_span}
use Rattle.db_catalog.specs.Database.{table_at}
use Rattle.row_filter.specs.Regions.{IsRegionIn}
use Rattle.row_filter.specs.Unions.{passes_any}
use Rattle.row_filter.proofs.Tests.{any, any-marked-more, region-at, zip-length}
use Rattle.row_filter.proofs.union.RangeUnion.marks.Goals as goal

none-marked : (rows : List ValueRow) → marks_of (map (λ (row : ValueRow). false) rows) ≡ 0
none-marked [] = refl
none-marked (row ∷ rows) = grind (arith, none-marked rows)

pub slice_bounds-region-items-end : goal.slice_bounds-region-items-end
slice_bounds-region-items-end g c = omega (arith, c.requires.union.1.few, c.requires.union.1.room)

pub marks-marks-requires-clause-region : goal.marks-marks-requires-clause-region
marks-marks-requires-clause-region g c =
    let is = c.requires.union.1 in (
      get_or is.tests c.loop-region.region-index any,
      region-at (g.R.RowMarks.database c.args.rows.now) c.args.table is.tests (take c.args.self.now.count c.args.self.now.regions) is.told c.loop-region.region-index c.loop-region-test.true,
    )

pub loop-region-init : goal.loop-region-init
loop-region-init g c = λ tests told. sym (none-marked (rows_of_span c.args.span (table_at (g.R.RowMarks.database c.args.rows.now) c.args.table).rows))

pub loop-region-preserved : goal.loop-region-preserved
loop-region-preserved g c = λ tests told.
    let database = g.R.RowMarks.database c.args.rows.now in
    let rows = rows_of_span c.args.span (table_at database c.args.table).rows in
    let regions = take c.args.self.now.count c.args.self.now.regions in
    let i = c.loop-region.region-index in
    let below : i < length tests = omega (arith, c.loop-region-test.true, zip-length (IsRegionIn database c.args.table) tests regions told) in
    any-marked-more tests i any rows c.loop-region.marks c.marks-marks.result below (c.marks-marks.ensures _ (region-at database c.args.table tests regions told i c.loop-region-test.true))
    (c.loop-region.invariant tests told)

pub returns : goal.returns
returns g c = λ test is.
    let database = g.R.RowMarks.database c.args.rows.now in
    let rows = rows_of_span c.args.span (table_at database c.args.table).rows in
    let regions = take c.args.self.now.count c.args.self.now.regions in
    let whole : take c.loop-region.region-index is.tests ≡ is.tests = take_all c.loop-region.region-index is.tests (omega (arith, c.loop-region-test.false, zip-length (IsRegionIn database c.args.table) is.tests regions is.told)) in
    c.loop-region.invariant is.tests is.told ∙ ap (λ (tests : List (ValueRow → Bool)). marks_of (map (passes_any tests) rows)) whole ∙ (λ k. marks_of (map (λ row. is.any row k) rows))
