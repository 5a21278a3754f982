use Rattle.std.proofs.Common.{◌≡◌, ◌≤◌, ◌+◌, ◌-◌, ◌*◌, ◌/◌, ◌∙◌, [], sym, ap, subst, length, take, drop, get_or, arith, ◌++◌, ◌∷◌}
use Rattle.std.proofs.Math.Nat.{div-mul-le_self, mul-le-mul_right}
use Rattle.sql_values.specs.Stored.{IsRowOf}
use Rattle.heap_pages.specs.Rows.{cut_rows}
use Rattle.db_catalog.proofs.Cut.{cut_last, get_or-cut_rows, long_cut}
use Rattle.db_catalog.proofs.batch.Batch.filled.Goals as goal

-- the values of a row are there
within : (c : goal.After-batch-in-loop-i-1) → c.loop-i.i * length c.args.columns.now + length c.args.columns.now ≤ length c.args.values.now
within c =
    let width = length c.args.columns.now in
    let count = length c.args.values.now / width in
    let ends : (c.loop-i.i + 1) * width ≤ count * width = mul-le-mul_right width (omega (arith, c.loop-i-test.true)) in
    omega (arith, ends, div-mul-le_self (length c.args.values.now) width)

pub nonzero_div-i-end : goal.nonzero_div-i-end
nonzero_div-i-end c = omega (arith, c.requires.some)

pub loop-i-init : goal.loop-i-init
loop-i-init c = c.in_ok-batch.ensures

pub overflow_mul-i : goal.overflow_mul-i
overflow_mul-i c = omega (arith, within c)

pub overflow_mul-i-in-loop-i : goal.overflow_mul-i-in-loop-i
overflow_mul-i-in-loop-i c = omega (arith, within c)

pub overflow_add-i : goal.overflow_add-i
overflow_add-i c = omega (arith, within c)

pub slice_bounds-put_row-end : goal.slice_bounds-put_row-end
slice_bounds-put_row-end c = within c

pub put_row-requires-clause-fits : goal.put_row-requires-clause-fits
put_row-requires-clause-fits c =
    let width = length c.args.columns.now in
    let start = c.loop-i.i * width in
    let is_width : start + width - start ≡ width = omega arith in
    let here : IsRowOf c.args.columns.now (get_or (cut_rows width (length c.args.values.now / width) c.args.values.now) c.loop-i.i []) =
    c.requires.fill.fit c.loop-i.i [] (omega (arith, long_cut width (length c.args.values.now / width) c.args.values.now, c.loop-i-test.true)) in
    let row : IsRowOf c.args.columns.now (take width (drop start c.args.values.now)) = subst (IsRowOf c.args.columns.now) (get_or-cut_rows width _ c.loop-i.i c.args.values.now [] c.loop-i-test.true) here in
    subst (λ cs. IsRowOf cs (take (start + width - start) (drop start c.args.values.now))) (sym (ap (λ b. b.columns) c.loop-i.invariant))
    (subst (λ n. IsRowOf c.args.columns.now (take n (drop start c.args.values.now))) (sym is_width) row)

pub loop-i-preserved : goal.loop-i-preserved
loop-i-preserved c =
    let width = length c.args.columns.now in
    let start = c.loop-i.i * width in
    let is_width : start + width - start ≡ width = omega arith in
    c.in_ok-put_row.ensures
    ∙ (λ j. record (c.loop-i.invariant j) { rows = (c.loop-i.invariant j).rows ++ take (is_width j) (drop start c.args.values.now) ∷ [] })
    ∙ ap (λ rows. record { columns = c.args.columns.now; rows = rows; row = [] }) (sym (cut_last width c.loop-i.i c.args.values.now))

pub returns : goal.returns
returns c =
    let width = length c.args.columns.now in
    c.loop-i.invariant
    ∙ ap (λ n. record { columns = c.args.columns.now; rows = cut_rows width n c.args.values.now; row = [] }) (omega (arith, c.loop-i-test.false, c.loop-i.auto.i-end))
