use Rattle.std.proofs.Common.{◌≡◌, ◌+◌, ◌<◌, ◌^◌, Bool, List, [], get_or, length, map, take, drop, sym, ap, ◌∙◌, arith}
use Rattle.std.proofs.lemmas.List.{length-drop, length-take, take_all}
use Rattle.sql_values.specs.Stored.{ValueRow}
use Rattle.narrow_columns.specs.Marks.{marks_of}
use Rattle.heap_pages.specs.Spans.{rows_of_span}
use Rattle.db_catalog.specs.Database.{table_at}
use Rattle.row_filter.specs.RowFilters.{passes_all}
use Rattle.row_filter.specs.Unions.{IsUnionIn}
use Rattle.row_filter.proofs.Marked.{all-marked, filter-marks, none-marked, seen, union-at}
use Rattle.row_filter.proofs.Tests.{all-marked-more, any, first-pass, zip-at, zip-length}
use Rattle.row_filter.proofs.filter.RowFilter.marks.Goals as goal

pub marks-marks-requires-clause-union : goal.marks-marks-requires-clause-union
marks-marks-requires-clause-union g c =
    let database = g.R.RowMarks.database c.args.rows.now in
    let is = c.requires.filter.1 in (
      get_or is.tests c.loop-union.union-index any,
      union-at database c.args.table is.tests c.deref-union-items.result.now c.loop-union.union-index (seen database c.args.table is.tests _ c.args.self.now ((λ k. record { unions = c.deref-union-items.ensures.value k; exact = c.self.inside.exact }) ∙ c.self.view_is) is.told)
          c.loop-union-test.true,
    )

pub loop-union-init : goal.loop-union-init
loop-union-init g c = λ tests told.
    let table = table_at (g.R.RowMarks.database c.args.rows.now) c.args.table in
    let rows = rows_of_span c.args.span table.rows in
    let count : length rows ≡ c.args.span.count = omega (arith, length-take c.args.span.count (drop c.args.span.first table.rows), length-drop c.args.span.first table.rows, c.requires.span.there) in
    let all : marks_of (map (passes_all []) rows) + 1 ≡ 2 ^ c.args.span.count = all-marked rows ∙ ap (λ n. 2 ^ n) count in
    omega (arith, all, c.every_row-marks.ensures)

pub loop-union-preserved : goal.loop-union-preserved
loop-union-preserved g c = λ tests told.
    let database = g.R.RowMarks.database c.args.rows.now in
    let rows = rows_of_span c.args.span (table_at database c.args.table).rows in
    let unions = c.deref-union-items.result.now in
    let i = c.loop-union.union-index in
    let below : i < length tests = omega (arith, c.loop-union-test.true, zip-length (IsUnionIn database c.args.table) tests unions told) in
    all-marked-more tests i any rows c.loop-union.marks c.marks-marks.result below
    (c.marks-marks.ensures _ (zip-at (IsUnionIn database c.args.table) tests unions i any _ told c.loop-union-test.true))
    (c.loop-union.invariant tests told)

pub returns-then-marks-eq0 : goal.returns-then-marks-eq0
returns-then-marks-eq0 g c = λ conditions is.
    let database = g.R.RowMarks.database c.args.rows.now in
    let rows = rows_of_span c.args.span (table_at database c.args.table).rows in
    let unions = c.deref-union-items.result.now in
    let i = c.loop-union.union-index in
    let told = seen database c.args.table is.tests _ c.args.self.now ((λ k. record { unions = c.deref-union-items.ensures.value k; exact = c.self.inside.exact }) ∙ c.self.view_is) is.told in
    let below : i < length is.tests = omega (arith, c.loop-union-test.true, zip-length (IsUnionIn database c.args.table) is.tests unions told) in
    let more = all-marked-more is.tests i any rows c.loop-union.marks c.marks-marks.result below
    (c.marks-marks.ensures _ (zip-at (IsUnionIn database c.args.table) is.tests unions i any _ told c.loop-union-test.true))
    (c.loop-union.invariant is.tests told) in
    filter-marks _ _ conditions c.args.self.now is rows 0
    (sym (none-marked (passes_all (take (i + 1) is.tests)) (passes_all is.tests) rows (first-pass is.tests (i + 1)) (sym more ∙ c.if-marks-eq0.true)))

pub returns : goal.returns
returns g c = λ conditions is.
    let database = g.R.RowMarks.database c.args.rows.now in
    let rows = rows_of_span c.args.span (table_at database c.args.table).rows in
    let unions = c.deref-union-items.result.now in
    let told = seen database c.args.table is.tests _ c.args.self.now ((λ k. record { unions = c.deref-union-items.ensures.value k; exact = c.self.inside.exact }) ∙ c.self.view_is) is.told in
    let whole : take c.loop-union.union-index is.tests ≡ is.tests = take_all c.loop-union.union-index is.tests (omega (arith, c.loop-union-test.false, zip-length (IsUnionIn database c.args.table) is.tests unions told)) in
    filter-marks _ _ conditions c.args.self.now is rows c.loop-union.marks
    (c.loop-union.invariant is.tests told ∙ ap (λ (tests : List (ValueRow → Bool)). marks_of (map (passes_all tests) rows)) whole)
