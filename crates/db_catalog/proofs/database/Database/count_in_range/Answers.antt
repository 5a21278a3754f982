-- The heap's rows of words pass where the table's rows of values do.
use Rattle.std.proofs.Common.{FitsSigned, w64, ap, rules, subst, ◌∙◌}
use Rattle.std.specs.Prelude.{count_by}
use Rattle.std.proofs.lemmas.Int.{to_z-of_z}
use Rattle.heap_pages.specs.Spans.{HaveColumnWords, has_among}
use Rattle.db_catalog.proofs.WordsOfTests.{same-count}
use Rattle.db_catalog.proofs.database.Database.count_in_range.Goals as goal

pub returns : goal.returns
returns c = λ test words_are.
    let heap = c.heap-heap.result.now in
    let found = c.args.found in
    let from : FitsSigned w64 found.from = search rules in
    let to : FitsSigned w64 found.to = search rules in
    let count = simp to_z-of_z at c.count_in_range.ensures.count in
    let fit = subst (λ column. HaveColumnWords column heap.rows) c.from.ensures c.count_in_range.ensures.words in
    count ∙ ap (λ column. count_by (has_among column found.from found.to) heap.rows) c.from.ensures
    ∙ same-count c.args.self.now c.args.table heap c.heap-heap.ensures found test words_are fit
