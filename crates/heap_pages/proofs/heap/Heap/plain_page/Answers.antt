-- The words of a page's rows are there, and are those of its rows.
use Rattle.std.proofs.Common.{◌≡◌, ◌+◌, ◌*◌, ◌<◌, take, drop, ap, ◌∙◌, arith}
use Rattle.heap_pages.specs.Rows.{pages_of, rows_on_page}
use Rattle.heap_pages.proofs.CutRows.{length-cut_rows}
use Rattle.heap_pages.proofs.PlainPages.{words_end, filled, slots}
use Rattle.heap_pages.proofs.heap.Heap.plain_page.Goals as goal

module _ (c : goal.After-self) where
  there : c.args.no < pages_of c.self.inside.columns c.self.inside.rows
  there = rw (← c.self.view_is, length-cut_rows c.self.inside.columns c.self.inside.rows c.self.inside.pages.words) at c.requires

  count : c.rows_on_page-rows.result ≡ rows_on_page c.self.inside.columns c.self.inside.rows c.args.no
  count = rw (← c.self.view_is, length-cut_rows c.self.inside.columns c.self.inside.rows c.self.inside.pages.words) at c.rows_on_page-rows.ensures

pub words_at-requires-clause-there : goal.words_at-requires-clause-there
words_at-requires-clause-there c =
    omega (arith, words_end _ _ _ _ _ _ c.self.invariant.laid c.args.no c.rows_on_page-rows.result (there c) (count c))

module _ (c : goal.After-words_at) where
  words : c.words_at.result.now ≡ take (c.rows_on_page-rows.result * c.self.inside.columns) (drop (c.args.no * c.self.inside.pages.size) c.self.inside.pages.words)
  words =
      let begin : c.args.no * c.self.inside.pages.size + 0 ≡ c.args.no * c.self.inside.pages.size = omega arith in
      c.words_at.ensures ∙ ap (λ k. take (c.rows_on_page-rows.result * c.self.inside.columns) (drop k c.self.inside.pages.words)) begin

pub returns-clause-filled : goal.returns-clause-filled
returns-clause-filled c =
    rw (← c.self.view_is, length-cut_rows c.self.inside.columns c.self.inside.rows c.self.inside.pages.words, ← count c.before)
    (filled _ _ _ _ _ _ c.self.invariant.laid c.args.no c.rows_on_page-rows.result (there c.before) (count c.before) c.words_at.result.now (words c))

pub returns-clause-rows : goal.returns-clause-rows
returns-clause-rows c =
    rw (← c.self.view_is, length-cut_rows c.self.inside.columns c.self.inside.rows c.self.inside.pages.words, ← count c.before)
    (slots _ _ _ _ _ _ c.self.invariant.laid c.args.no c.rows_on_page-rows.result (there c.before) (count c.before) c.words_at.result.now (words c))
