use Rattle.std.proofs.Common.{◌∙◌, ap, arith, get_or, length, refl, sym, zero-add}
use Rattle.std.specs.List.{range_with_len}
use Rattle.std.proofs.lemmas.List.{ext_get_or}
use Rattle.std.proofs.lemmas.List.FromFn.{get_or-range_with_len, length-range_with_len}
use Rattle.result_text.proofs.projection.are_in_place.Goals as goal

pub returns-then-places-width : goal.returns-then-places-width
returns-then-places-width c = (
  λ e. absurd (cc),
  λ same. absurd (c.if-places-width.true (ap length same ∙ length-range_with_len 0 c.args.width)),
)

pub returns-then-place-column : goal.returns-then-place-column
returns-then-place-column c = (
  λ e. absurd (cc),
  λ same. absurd (c.if-place-column.true (ap (λ places. get_or places c.loop-column.column 0) same
      ∙ get_or-range_with_len 0 c.args.width c.loop-column.column 0 (omega arith) ∙ zero-add c.loop-column.column)),
)

pub returns : goal.returns
returns c = (
  λ _. ext_get_or 0 c.args.places.now (range_with_len 0 c.args.width) (c.if-places-width.false ∙ sym (length-range_with_len 0 c.args.width))
      (λ k below. c.loop-column.invariant k (omega arith) ∙ sym (get_or-range_with_len 0 c.args.width k 0 (omega arith) ∙ zero-add k)),
  λ _. refl,
)
