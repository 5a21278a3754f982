use Rattle.std.proofs.Common.{◌≡◌, ◌≤◌, ◌+◌, ◌-◌, ◌*◌, ◌∙◌, [], ◌∷◌, ◌++◌, length, take, drop, get_or, sym, ap, pos, SFits, w64, rules, arith}
use Rattle.std.proofs.lemmas.List.{length-take-le, length-drop}
use Rattle.std.proofs.lemmas.Int.{to_z-of_z}
use Rattle.std.proofs.Math.Nat.{mul-le-mul_right}
use Rattle.heap_pages.specs.Rows.{cut_rows}
use Rattle.db_catalog.specs.Indexes.{word_entry, word_entries}
use Rattle.db_catalog.proofs.Cut.{cut_last, long_cut}
use Rattle.db_catalog.proofs.OfIndexes.{next_entry}
use Rattle.db_catalog.proofs.entries.entries_among.Goals as goal
use Rattle.db_catalog.proofs.entries.entries_among.Goals.{In-loop-i}

-- the words of a row are there
within : (c : In-loop-i) → c.loop-i.i * c.args.flat.now.width + c.args.flat.now.width ≤ length c.args.flat.now.words.now
within c =
    let ends : (c.loop-i.i + 1) * c.args.flat.now.width ≤ c.args.flat.now.rows * c.args.flat.now.width = mul-le-mul_right c.args.flat.now.width (omega (arith, c.loop-i-test.true)) in
    omega (arith, ends, c.requires.filled)

pub overflow_mul-row : goal.overflow_mul-row
overflow_mul-row c = omega (arith, within c)

pub overflow_mul-row-in-loop-i : goal.overflow_mul-row-in-loop-i
overflow_mul-row-in-loop-i c = omega (arith, within c)

pub overflow_add-row : goal.overflow_add-row
overflow_add-row c = omega (arith, within c)

pub slice_bounds-row-end : goal.slice_bounds-row-end
slice_bounds-row-end c = within c

pub loop-i-preserved : goal.loop-i-preserved
loop-i-preserved c =
    let words = c.args.flat.now.words.now in
    let width = c.args.flat.now.width in
    let i = c.loop-i.i in
    let start = i * width in
    let is_width : start + width - start ≡ width = omega arith in
    let row = take (start + width - start) (drop start words) in
    let within : (i + 1) * width ≤ c.args.flat.now.rows * width = mul-le-mul_right width (omega (arith, c.loop-i-test.true)) in
    let left : width ≤ length (drop start words) = omega (arith, length-drop start words, within, c.requires.filled) in
    let wide : length row ≡ width = ap (λ n. length (take n (drop start words))) is_width ∙ length-take-le width (drop start words) left in
    let fits : SFits w64 (get_or row c.args.column (pos 0)) = search rules in
    let put : c.push_entry.new.entries.items ≡ c.loop-i.entries.items ++ word_entry (c.args.flat.now.first + i) (get_or row c.args.column (pos 0)) = simp to_z-of_z at c.in_ok-push_entry.ensures in
    next_entry c.args.column c.args.flat.now.first i (c.args.flat.now.first + i) (cut_rows width i words) row (pos 0) _ _ c.loop-i.invariant (long_cut width i words) (omega (arith, wide, c.requires.there)) (omega arith) put
    ∙ ap (λ n. word_entries c.args.column c.args.flat.now.first (cut_rows width i words ++ take n (drop start words) ∷ [])) is_width
    ∙ ap (word_entries c.args.column c.args.flat.now.first) (sym (cut_last width i words))
