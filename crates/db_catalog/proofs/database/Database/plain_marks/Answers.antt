-- The heap's rows of words pass where the table's rows of values do.
use Rattle.std.proofs.Common.{FitsSigned, w64, ap, map, rules, subst, ◌∙◌}
use Rattle.std.proofs.lemmas.Int.{to_z-of_z}
use Rattle.narrow_columns.specs.Marks.{marks_of}
use Rattle.heap_pages.specs.Spans.{HaveColumnWords, has_among, rows_of_span}
use Rattle.db_catalog.proofs.WordsOfTests.{same-marks}
use Rattle.db_catalog.proofs.database.Database.plain_marks.Goals as goal

pub returns : goal.returns
returns c = λ test words_are.
    let heap = c.heap-heap.result.now in
    let found = c.args.found in
    let from : FitsSigned w64 found.from = search rules in
    let to : FitsSigned w64 found.to = search rules in
    let marks = simp to_z-of_z at c.marks.ensures.marks in
    let fit = subst (λ column. HaveColumnWords column (rows_of_span c.args.span heap.rows)) c.from.ensures c.marks.ensures.words in
    marks ∙ ap (λ column. marks_of (map (has_among column found.from found.to) (rows_of_span c.args.span heap.rows))) c.from.ensures
    ∙ ap marks_of (same-marks c.args.self.now c.args.table heap c.heap-heap.ensures found test words_are c.args.span c.requires.there fit)
