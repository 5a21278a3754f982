use Rattle.std.proofs.Common.{◌≡◌, ◌+◌, ◌-◌, ◌*◌, ◌/◌, ◌<◌, [], ℕ, inl, inr, get_or, length, take, drop, sym, ap, ap₂, subst, ◌∙◌, arith}
use Rattle.std.proofs.lemmas.Bool.{cases_lt}
use Rattle.std.proofs.lemmas.List.{get_or_default}
use Rattle.sql_values.specs.Stored.{ValueRow, IsRowOf}
use Rattle.heap_pages.specs.Rows.{cut_rows}
use Rattle.db_catalog.proofs.Cut.{get_or-cut_rows, long_cut}
use Rattle.layers.proofs.tables.fill_rows.Goals as goal

pub loop-i-preserved : goal.loop-i-preserved
loop-i-preserved c = λ k below.
    let columns = c.args.columns.now in
    let values = c.args.values.now in
    let width = length columns in
    let rows = cut_rows width (length values / width) values in
    elim (cases_lt k c.loop-i.i) [
      | inl there ↦ c.loop-i.invariant k there
      | inr last ↦
          let here : k ≡ c.loop-i.i = omega (arith, below, last) in
          let count : c.loop-i.i * width + width - c.loop-i.i * width ≡ width = omega arith in
          let row : get_or rows k [] ≡ take (c.loop-i.i * width + width - c.loop-i.i * width) (drop (c.loop-i.i * width) values) =
          ap (λ n. get_or rows n []) here ∙ get_or-cut_rows width (length values / width) c.loop-i.i values [] c.loop-i-test.true
          ∙ ap (λ n. take n (drop (c.loop-i.i * width) values)) (sym count) in
          subst (IsRowOf columns) (sym row) (c.is_row_of.ensures c.if-not-is_row_of.false)
    ]

pub returns : goal.returns
returns c = λ _.
    let columns = c.args.columns.now in
    let values = c.args.values.now in
    let width = length columns in
    let rows = cut_rows width (length values / width) values in
    record {
      whole = grind (arith, c.if-values-width-ne0.false);
      fit = λ k d there.
          subst (IsRowOf columns) (get_or_default rows k [] d there)
          (c.loop-i.invariant k (omega (arith, there, long_cut width (length values / width) values, c.loop-i-test.false)));
    }
