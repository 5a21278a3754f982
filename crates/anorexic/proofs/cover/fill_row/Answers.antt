use Rattle.std.proofs.Common.{◌+◌, ◌*◌, map, arith, sym, ◌∙◌}
use Rattle.std.specs.Prelude.{false, nat_le}
use Rattle.std.proofs.lemmas.List.{ext_get_or, get_or-map, length-map}
use Rattle.plan_tree.specs.Plans.{PlanTree, Scan}
use Rattle.cost_model.specs.Costing.{costing_tree}
use Rattle.cost_model.specs.Costs.{cost_of}
use Rattle.anorexic.proofs.cover.fill_row.Goals as goal

pub returns : goal.returns
returns c =
    let row = c.loop-place.row in
    let plans = c.args.plans.now.plans in
    let at = c.args.at.now in
    let test = λ (p : PlanTree). nat_le (100 * cost_of (costing_tree c.args.plans.now.costing) p at.point) ((100 + c.args.threshold) * at.cost) in
    let (each, long) = c.loop-place.invariant in
    let same = length-map plans test in
    ext_get_or false row (map test plans) (omega (arith, long, same, c.requires.long))
    (λ k less. each k (omega (arith, long, less, c.loop-place-test.false)) ∙ sym (get_or-map test plans k (Scan 0) false (omega (arith, long, less, c.requires.long))))
