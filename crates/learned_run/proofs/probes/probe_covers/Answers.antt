use Rattle.std.proofs.Common.{◌≡◌, ◌∙◌, inl, inr, ℕ, ◌-◌, ◌*◌, ◌<◌, List, length, ap, sym, arith}
use Rattle.std.specs.Prelude.{Bool, true, ◌&&◌}
use Rattle.std.specs.Int.{div_ceil}
use Rattle.std.proofs.lemmas.Bool.{and_from, cases_lt}
use Rattle.std.proofs.lemmas.List.Folds.{list_any_at}
use Rattle.plan_tree.specs.Plans.{plan_tree}
use Rattle.cost_model.specs.Costing.{costing_tree}
use Rattle.cost_model.specs.Greedy.{covers_at}
use Rattle.learned_run.specs.Skips.{is_at_or_below}
use Rattle.learned_run.proofs.AtOrBelow.{below-told}
use Rattle.learned_run.proofs.probes.probe_covers.Goals as goal

pub returns-then-covers_at : goal.returns-then-covers_at
returns-then-covers_at c = λ _.
    let costing = costing_tree c.args.test.now.costing.now in
    let p = plan_tree c.args.p.now in
    let point = c.args.point.now in
    let points = c.args.points.now in
    let other = c.index-points-count.result in
    let at = length points - 1 - c.loop-probe.probe * 5 in
    let test : List ℕ → Bool = λ one. is_at_or_below point one && covers_at costing c.args.test.now.threshold p one in
    let above : is_at_or_below point other ≡ true = sym (below-told c.below.result point other c.below.ensures) ∙ c.if-below.true in
    let covers : covers_at costing c.args.test.now.threshold p other ≡ true = sym c.covers_at.ensures ∙ c.if-covers_at.true in
    let some : 0 < length points =
    elim (cases_lt 0 (length points)) [
      | inl more ↦ more
      | inr none ↦
          let zero : length points ≡ 0 = omega (arith, none) in
          let nothing : div_ceil (length points) 5 ≡ 0 = ap (λ n. div_ceil n 5) zero in
          absurd (omega (arith, c.loop-probe-test.true, c.loop-probe.auto.probe-end, c.div_ceil-probe-end.ensures, nothing))
    ] in
    let passes : test other ≡ true = and_from _ _ above covers in
    sym (list_any_at test points at other (omega (arith, some)) (ap test (sym c.index-points-count.is) ∙ passes))
