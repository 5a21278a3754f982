-- The pages that were taken hold all rows, and the next row belongs on the first page with room.
use Rattle.std.proofs.Common.{All, FitsSigned, w64, ◌≡◌, ℤ, ◌+◌, ◌-◌, ◌/◌, ◌≤◌, List, ◌++◌, length, sym, ap, subst, ◌∙◌, arith}
use Rattle.std.proofs.lemmas.List.{length-append}
use Rattle.std.proofs.lemmas.List.Elements.{All-append}
use Rattle.heap_pages.specs.Columns.{AreColumnsOf}
use Rattle.heap_pages.specs.Layout.{IsLaidOut, PagesState}
use Rattle.heap_pages.specs.Rows.{HeapState, Row, cut_rows}
use Rattle.heap_pages.proofs.CutRows.{cut_rows-append_all, length-cut_rows}
use Rattle.heap_pages.proofs.PageStarts.{some_rows, words_begun, words_fit, words_held, pages_enough}
use Rattle.heap_pages.proofs.Refusals.{limit_kept, limit_of_memory, limit_told, unchanged_on}
use Rattle.heap_pages.proofs.heap.Heap.append_rows.Goals as goal

pub append_all-requires-clause-begun : goal.append_all-requires-clause-begun
append_all-requires-clause-begun c =
    rw c.in_ok-take_memory.ensures.pages.made (words_begun _ _ _ _ _ _ c.self.invariant.laid c.page_of-first.result (rw (← c.self.view_is) at c.page_of-first.ensures))

pub append_all-requires-clause-free : goal.append_all-requires-clause-free
append_all-requires-clause-free c =
    let fit = words_fit _ _ _ _ _ _ c.self.invariant.laid c.page_of-first.result (rw (← c.self.view_is) at c.page_of-first.ensures) in
    rw c.in_ok-take_memory.ensures.pages.made (omega (arith, fit, c.self.invariant.laid.some_columns))

pub append_all-requires-clause-room : goal.append_all-requires-clause-room
append_all-requires-clause-room c =
    let all = c.self.inside.rows + c.args.n in
    let filled = rw (← c.self.view_is) at c.requires.filled in
    let needed : (all + (c.self.inside.per_page - 1)) / c.self.inside.per_page ≤ c.take_memory.new.pages.count = rw (← c.pages_for-pages.ensures) (omega (arith, ap (λ (p : PagesState). p.count) c.in_ok-take_memory.ensures.pages.made)) in
    let rows_held = pages_enough all c.self.inside.per_page c.take_memory.new.pages.count (some_rows _ _ _ _ _ _ c.self.invariant.laid) needed in
    let held = words_held _ _ _ _ _ _ c.self.invariant.laid all c.take_memory.new.pages.count rows_held in
    let size : c.take_memory.new.pages.size ≡ c.self.inside.pages.size = ap (λ (p : PagesState). p.size) c.in_ok-take_memory.ensures.pages.made in
    let words : c.take_memory.new.pages.words ≡ c.self.inside.pages.words = ap (λ (p : PagesState). p.words) c.in_ok-take_memory.ensures.pages.made in
    rw (size, words, c.as_slice-words.ensures.value) (omega (arith, held, filled, c.self.invariant.laid.words_fill_rows))

pub invariant_of-self-2 : goal.invariant_of-self-2
invariant_of-self-2 c =
    let all = c.self.inside.rows + c.args.n in
    let filled = rw (← c.self.view_is) at c.requires.filled in
    let needed : (all + (c.self.inside.per_page - 1)) / c.self.inside.per_page ≤ c.take_memory.new.pages.count = rw (← c.pages_for-pages.ensures) (omega (arith, ap (λ (p : PagesState). p.count) c.in_ok-take_memory.ensures.pages.made)) in
    let rows_held = pages_enough all c.self.inside.per_page c.take_memory.new.pages.count (some_rows _ _ _ _ _ _ c.self.invariant.laid) needed in
    let more = ap (λ (p : PagesState). length p.words) c.append_all.ensures ∙ length-append c.take_memory.new.pages.words c.as_slice-words.result.now in
    let words : c.append_all.new.self.words ≡ c.self.inside.pages.words ++ c.args.words.items =
    ap (λ (p : PagesState). p.words) c.append_all.ensures ∙ (λ i. (c.in_ok-take_memory.ensures.pages.made i).words ++ c.as_slice-words.ensures.value i) in
    record {
      laid = record {
        some_columns = c.self.invariant.laid.some_columns;
        few_columns = c.self.invariant.laid.few_columns;
        full_page = c.self.invariant.laid.full_page;
        divides = c.self.invariant.laid.divides;
        whole_rows = ap (λ (p : PagesState). p.size) c.append_all.ensures ∙ ap (λ (p : PagesState). p.size) c.in_ok-take_memory.ensures.pages.made ∙ c.self.invariant.laid.whole_rows;
        few_rows = omega arith;
        words_fill_rows = omega (arith, more, ap (λ (p : PagesState). length p.words) c.in_ok-take_memory.ensures.pages.made, ap length c.as_slice-words.ensures.value, filled, c.self.invariant.laid.words_fill_rows);
        room = rw (ap (λ (p : PagesState). p.count) c.append_all.ensures) (omega (arith, rows_held));
      };
      fit = subst (All (FitsSigned w64)) (sym words) (All-append (FitsSigned w64) c.self.inside.pages.words c.args.words.items c.self.invariant.fit
          (subst (All (FitsSigned w64)) c.as_slice-words.ensures.value c.know_words.ensures));
      narrow =
          let all = ap (λ (more : List ℤ). c.self.inside.pages.words ++ more) c.as_slice-words.ensures.value ∙ sym words in
          subst (λ (ws : List ℤ). AreColumnsOf c.self.inside.columns (c.self.inside.rows + c.args.n) ws c.append.new.self) all
          (c.append.ensures c.self.inside.pages.words (c.in_ok-take_memory.ensures.kept c.self.inside.pages.words c.self.invariant.narrow) c.self.invariant.laid.words_fill_rows);
    }

pub returns-then-n-self-clause-limit : goal.returns-then-n-self-clause-limit
returns-then-n-self-clause-limit c =
    let count = ap (λ (heap : HeapState). length heap.rows) (sym c.self.view_is) ∙ length-cut_rows c.self.inside.columns c.self.inside.rows c.self.inside.pages.words in
    limit_told (length c.args.self.now.rows + c.args.n) (c.self.inside.rows + c.args.n) (omega (arith, count)) (omega (arith, count, c.if-n-self.true))

pub returns-in_err-take_memory-clause-limit : goal.returns-in_err-take_memory-clause-limit
returns-in_err-take_memory-clause-limit c =
    let count = ap (λ (heap : HeapState). length heap.rows) (sym c.self.view_is) ∙ length-cut_rows c.self.inside.columns c.self.inside.rows c.self.inside.pages.words in
    limit_of_memory (length c.args.self.now.rows + c.args.n) c.from_residual.result (omega (arith, count, c.if-n-self.false, c.self.invariant.laid.few_rows)) c.from_residual.ensures.1

pub returns-clause-limit : goal.returns-clause-limit
returns-clause-limit c =
    let count = ap (λ (heap : HeapState). length heap.rows) (sym c.self.view_is) ∙ length-cut_rows c.self.inside.columns c.self.inside.rows c.self.inside.pages.words in
    limit_kept (length c.args.self.now.rows + c.args.n) tt (omega (arith, count, c.if-n-self.false, c.self.invariant.laid.few_rows))

pub pages_for-pages-requires-clause-some : goal.pages_for-pages-requires-clause-some
pages_for-pages-requires-clause-some c = some_rows _ _ _ _ _ _ c.self.invariant.laid

pub append-requires-clause-few : goal.append-requires-clause-few
append-requires-clause-few c = (c.in_ok-take_memory.ensures.kept c.self.inside.pages.words c.self.invariant.narrow).few

pub invariant_of-self : goal.invariant_of-self
invariant_of-self c =
    let same = sym c.in_err-take_memory.ensures.pages.unchanged in
    record {
      laid = subst (λ (pages : PagesState). IsLaidOut c.self.inside.columns c.self.inside.per_page c.self.inside.reciprocal c.self.inside.rows c.self.inside.spare pages) same c.self.invariant.laid;
      fit = subst (λ (pages : PagesState). All (FitsSigned w64) pages.words) same c.self.invariant.fit;
      narrow = subst (λ (pages : PagesState). AreColumnsOf c.self.inside.columns c.self.inside.rows pages.words c.take_memory.new.narrow) same
          (c.in_err-take_memory.ensures.kept c.self.inside.pages.words c.self.invariant.narrow);
    }

pub returns-in_err-take_memory-clause-appended : goal.returns-in_err-take_memory-clause-appended
returns-in_err-take_memory-clause-appended c =
    unchanged_on _ _ _ c.from_residual.result c.from_residual.ensures.1
    (ap (λ (pages : PagesState). record { columns = c.self.inside.columns; rows = cut_rows c.self.inside.columns c.self.inside.rows pages.words; spare = c.self.inside.spare }) c.in_err-take_memory.ensures.pages.unchanged ∙ c.self.view_is)

pub returns-clause-appended : goal.returns-clause-appended
returns-clause-appended c =
    let words : c.append_all.new.self.words ≡ c.self.inside.pages.words ++ c.args.words.items =
    ap (λ (pages : PagesState). pages.words) c.append_all.ensures ∙ (λ i. (c.in_ok-take_memory.ensures.pages.made i).words ++ c.as_slice-words.ensures.value i) in
    record {
      made =
          ap (λ (ws : List ℤ). record { columns = c.self.inside.columns; rows = cut_rows c.self.inside.columns (c.self.inside.rows + c.args.n) ws; spare = 0 }) words
          ∙ ap (λ (rows : List Row). record { columns = c.self.inside.columns; rows = rows; spare = 0 })
          (cut_rows-append_all c.self.inside.columns c.self.inside.rows c.args.n c.self.inside.pages.words c.args.words.items c.self.invariant.laid.words_fill_rows)
          ∙ ap (λ (heap : HeapState). record { columns = heap.columns; rows = heap.rows ++ cut_rows heap.columns c.args.n c.args.words.items; spare = 0 }) c.self.view_is;
      unchanged = tt;
    }
