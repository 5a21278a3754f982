use Rattle.std.proofs.Common.{◌≡◌, count_by, sym, ◌∙◌}
use Rattle.std.specs.Prelude.{count_ones}
use Rattle.sql_values.specs.Stored.{ValueRow}
use Rattle.heap_pages.specs.Spans.{rows_of_span}
use Rattle.heap_pages.proofs.MarkedRows.{ones-marks_of}
use Rattle.db_catalog.specs.Database.{table_at}
use Rattle.table_stats.specs.Ready.{is_kept, own}
use Rattle.table_stats.proofs.kept.kept_in_span.Goals as goal

pub returns-then-is_exact : goal.returns-then-is_exact
returns-then-is_exact c =
    let filter = c.args.filter.now in
    let rows = rows_of_span c.args.span (table_at c.args.db.now (own filter).table).rows in
    let marks = c.marks-marks.ensures (own filter).filter c.requires.ranges in
    let same : (row : ValueRow) → marks.test row ≡ is_kept filter row = marks.exact (sym c.is_exact.ensures ∙ c.if-is_exact.true) in
    c.from.ensures ∙ (λ k. count_ones (marks.are k)) ∙ ones-marks_of marks.test rows ∙ (λ k. count_by (λ row. same row k) rows)
