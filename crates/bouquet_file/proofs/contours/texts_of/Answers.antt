use Rattle.std.proofs.Common.{Bor, Global, List, Vec, ℕ, ◌+◌, ap, ◌∙◌, map, rules, sym, Ok}
use Rattle.serde_json.specs.View.{view}
use Rattle.bouquet_file.specs.declared.fault.FieldPath.TheVariants as path
use Rattle.bouquet_file.specs.declared.fault.OpenFault.TheVariants as fault
use Rattle.bouquet_file.specs.Checks.{plan_fits}
use Rattle.sql_values.specs.Steps.{need}
use Rattle.bouquet_file.proofs.Found.{is_seen, is_missing}
use Rattle.bouquet_file.proofs.Walks.{walk-ends, walk-fails, walk-pushes, handed-on}
use Rattle.bouquet_file.proofs.contours.texts_of.Goals as goal

abbrev seen : Bor (List ℕ) → List ℕ
seen text = text.now

pub returns-clause-texts : goal.returns-clause-texts
returns-clause-texts c = walk-ends view (plan_fits c.args.contour) c.args.plans.now c.loop-place.place _ c.loop-place-test.false c.loop-place.invariant.walked

pub returns-in_err-text-clause-texts : goal.returns-in_err-text-clause-texts
returns-in_err-text-clause-texts c =
    let due = fault.Field (path.Plan c.args.contour (c.loop-place.place + 1)) in
    handed-on seen (λ (texts : Vec (Bor (List ℕ)) Global). map seen texts.items) _ _ c.in_err-text.field-0.0 c.from_residual.result c.from_residual.ensures.1
    (walk-fails view (plan_fits c.args.contour) c.args.plans.now c.loop-place.place c.index-plans-place.result _ c.in_err-text.field-0.0
    c.loop-place-test.true c.index-plans-place.is c.loop-place.invariant.walked)
    (λ other. is_missing seen due c.in_err-text.field-0.0 c.as_str.result _ c.in_err-text.ensures c.as_str.ensures)

pub loop-place-preserved : goal.loop-place-preserved
loop-place-preserved c =
    let due = fault.Field (path.Plan c.args.contour (c.loop-place.place + 1)) in
    let text = ap (need due) (is_seen seen due c.as_str.result c.in_ok-text.text _ c.in_ok-text.ensures c.as_str.ensures) in
    record {
      walked =
          walk-pushes view (plan_fits c.args.contour) seen c.args.plans.now c.loop-place.place c.index-plans-place.result c.loop-place.texts.items c.push.new.self.items
          c.as_bytes.result c.loop-place-test.true c.index-plans-place.is (text ∙ ap Ok (sym c.as_bytes.ensures.value)) c.in_ok-push.ensures.items c.loop-place.invariant.walked;
      count = search rules;
    }
