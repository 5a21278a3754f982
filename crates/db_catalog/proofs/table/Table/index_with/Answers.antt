use Rattle.std.proofs.Common.{◌≡◌, ◌++◌, ◌∙◌, length, get_or, ap, sym, subst, IfOk, IsPermutation, rules}
use Rattle.heap_pages.specs.Rows.{cut_rows}
use Rattle.db_catalog.specs.Indexes.{kept_index, word_entries}
use Rattle.db_catalog.proofs.OfIndexes.{merged}
use Rattle.db_catalog.proofs.Tables.{get_or-map}
use Rattle.db_catalog.proofs.table.Table.index_with.Goals as goal

pub returns : goal.returns
returns c =
    let table = c.args.self.now in
    let rows = table.heap.rows in
    let column = get_or table.indexes.columns c.args.place 0 in
    let counted : length table.columns.items ≡ c.len-width.result = search rules in
    let width : c.len-width.result ≡ table.heap.columns = sym counted ∙ sym c.requires.filled.is_wide.width in
    let more : c.in_ok-more.more.items ≡ word_entries column (length rows) (cut_rows table.heap.columns c.args.rows c.args.words.now) =
    c.in_ok-more.ensures ∙ (λ i. word_entries (ap (λ l. get_or l c.args.place 0) c.columns.ensures i) (c.rows-first.ensures.count i) (cut_rows (width i) c.args.rows c.args.words.now)) in
    let turned : IsPermutation (word_entries column (length rows) (cut_rows table.heap.columns c.args.rows c.args.words.now)) c.deref.result.now = subst (IsPermutation _) (sym c.deref.ensures.value) (subst (λ l. IsPermutation l c.sort_unstable.new.self.items) more c.sort_unstable.ensures.permutation) in
    let index : c.index-entries-place.result ≡ kept_index rows column =
    c.index-entries-place.is ∙ ap (λ l. get_or l c.args.place c.index-entries-place.result) (c.entries.ensures ∙ c.requires.filled.indexes.entries)
    ∙ get_or-map (kept_index rows) table.indexes.columns c.args.place 0 c.index-entries-place.result c.requires.there in
    merged c.merged.result rows (cut_rows table.heap.columns c.args.rows c.args.words.now) column c.deref.result.now turned
    (subst (λ l. IfOk c.merged.result (λ index. IsPermutation (l ++ c.deref.result.now) index)) index c.merged.ensures.same) c.merged.ensures.order
