use Rattle.std.proofs.Common.{◌≡◌, ◌∙◌, ◌++◌, length, ap}
use Rattle.std.specs.Prelude.{Some, slice_set}
use Rattle.plan_space.specs.KeptRows.{rows_by_places}
use Rattle.plan_space.proofs.RowsKept.{row-kept}
use Rattle.plan_space.proofs.kept_rows.KeptRows.keep.Goals as goal

pub returns-clause-kept : goal.returns-clause-kept
returns-clause-kept c =
    let kept = c.self.inside in
    let number : c.len-number.result ≡ length kept.rows.items = c.len-number.ensures ∙ kept.rows.ok.0 in
    ap (λ n. rows_by_places c.extend_from_slice.new.self.items (slice_set kept.numbers.items c.args.place (Some n))) number
    ∙ row-kept kept.rows.items c.extend_from_slice.new.self.items c.args.row.now kept.numbers.items c.args.place (c.in_ok-extend_from_slice.ensures.items ∙ ap (λ all. kept.rows.items ++ all) c.from_ref.ensures.value) c.self.invariant
    ∙ ap (λ all. slice_set all c.args.place (Some c.args.row.now)) c.self.view_is
