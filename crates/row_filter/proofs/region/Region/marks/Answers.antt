use Rattle.std.proofs.Common.{◌≡◌, ◌+◌, ◌^◌, true, bit_and, drop, length, map, sym, ap, subst, ◌∙◌, arith}
use Rattle.std.proofs.lemmas.List.{length-drop, length-take}
use Rattle.narrow_columns.specs.Marks.{marks_of}
use Rattle.heap_pages.specs.Spans.{rows_of_span}
use Rattle.heap_pages.proofs.MarkedRows.{marks_of-and}
use Rattle.db_catalog.specs.Database.{table_at}
use Rattle.row_filter.specs.Regions.{IsRegionIn}
use Rattle.row_filter.proofs.Covers.{first-true}
use Rattle.row_filter.proofs.Marked.{all-marked, none-marked}
use Rattle.row_filter.proofs.region.Region.marks.Goals as goal

pub returns-in-Every : goal.returns-in-Every
returns-in-Every g c = λ test is.
    let database = g.R.RowMarks.database c.args.rows.now in
    let table = table_at database c.args.table in
    let rows = rows_of_span c.args.span table.rows in
    let every = subst (IsRegionIn database c.args.table test) c.in-Every.is is in
    let count : length rows ≡ c.args.span.count = omega (arith, length-take c.args.span.count (drop c.args.span.first table.rows), length-drop c.args.span.first table.rows, c.requires.span.there) in
    let all : marks_of (map (λ _. true) rows) + 1 ≡ 2 ^ c.args.span.count = all-marked rows ∙ ap (λ n. 2 ^ n) count in
    let whole : c.every_row.result ≡ marks_of (map (λ _. true) rows) = omega (arith, all, c.every_row.ensures) in
    whole ∙ (λ k. marks_of (map (λ row. sym (every row) k) rows))

pub returns-then-marks-eq0 : goal.returns-then-marks-eq0
returns-then-marks-eq0 g c = λ test is.
    let database = g.R.RowMarks.database c.args.rows.now in
    let rows = rows_of_span c.args.span (table_at database c.args.table).rows in
    let pair = subst (IsRegionIn database c.args.table test) c.in-Pair.is is in
    sym (none-marked pair.one test rows (λ row met. first-true (pair.one row) (pair.other row) (pair.both row ∙ met)) (sym (c.marks-marks.ensures pair.one pair.one_told) ∙ c.if-marks-eq0.true))

pub returns-else-marks-eq0 : goal.returns-else-marks-eq0
returns-else-marks-eq0 g c = λ test is.
    let database = g.R.RowMarks.database c.args.rows.now in
    let rows = rows_of_span c.args.span (table_at database c.args.table).rows in
    let pair = subst (IsRegionIn database c.args.table test) c.in-Pair.is is in
    (λ k. bit_and (c.marks-marks.ensures pair.one pair.one_told k) (c.marks-in-Pair.ensures pair.other pair.other_told k))
    ∙ sym (marks_of-and pair.one pair.other rows)
    ∙ (λ k. marks_of (map (λ row. pair.both row k) rows))
