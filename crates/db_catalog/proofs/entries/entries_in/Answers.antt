use Rattle.std.proofs.Common.{◌≡◌, ◌<◌, ◌∙◌, [], ◌∷◌, ◌++◌, length, take, get_or, sym, ap, subst, pos, SFits, w64, rules, arith}
use Rattle.std.proofs.lemmas.List.{take_more, length-take-le}
use Rattle.std.proofs.lemmas.Int.{to_z-of_z}
use Rattle.std.proofs.lemmas.Option.{get_or_from_slice_get, slice_get_within}
use Rattle.db_catalog.specs.Indexes.{word_entry, word_entries}
use Rattle.db_catalog.proofs.OfIndexes.{next_entry}
use Rattle.db_catalog.proofs.entries.entries_in.Goals as goal

-- each row of the heap is as wide as the heap
row_wide : (c : goal.After-get) → length c.get.result.now ≡ c.args.heap.now.columns
row_wide c =
    let rows = c.args.heap.now.rows in
    let words = c.get.result.now in
    subst (λ w. length w ≡ c.args.heap.now.columns) (get_or_from_slice_get rows c.loop-i.i words words c.get.ensures)
    (c.requires.wide c.loop-i.i words (slice_get_within rows c.loop-i.i words c.get.ensures))

pub bounds-get-column : goal.bounds-get-column
bounds-get-column c = omega (arith, row_wide c, c.requires.there)

pub loop-i-preserved : goal.loop-i-preserved
loop-i-preserved c =
    let rows = c.args.heap.now.rows in
    let i = c.loop-i.i in
    let words = c.get.result.now in
    let here : i < length rows = slice_get_within rows i words c.get.ensures in
    let row : get_or rows i words ≡ words = get_or_from_slice_get rows i words words c.get.ensures in
    let wide : length words ≡ c.args.heap.now.columns = subst (λ w. length w ≡ c.args.heap.now.columns) row (c.requires.wide i words here) in
    let fits : SFits w64 (get_or words c.args.column (pos 0)) = search rules in
    let put : c.push_entry.new.entries.items ≡ c.loop-i.entries.items ++ word_entry i (get_or words c.args.column (pos 0)) = simp to_z-of_z at c.in_ok-push_entry.ensures in
    next_entry c.args.column 0 i i (take i rows) words (pos 0) _ _ c.loop-i.invariant (length-take-le i rows (omega (arith, here))) (omega (arith, wide, c.requires.there)) (omega arith) put
    ∙ ap (word_entries c.args.column 0) (sym (take_more rows i words here ∙ ap (λ w. take i rows ++ w ∷ []) row))
