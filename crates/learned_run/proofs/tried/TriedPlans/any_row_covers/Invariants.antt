use Rattle.std.proofs.Common.{◌≡◌, map, take}
use Rattle.std.specs.Prelude.{All, false}
use Rattle.cost_model.specs.Costing.{costing_tree}
use Rattle.plan_space.specs.Parts.{nth_plan}
use Rattle.learned_run.specs.Skips.{covers_above}
use Rattle.learned_run.specs.Covering.{IsTriedRow}
use Rattle.learned_run.proofs.tried.TriedPlans.any_row_covers.Given as goal

abbrev pub invariant-loop-at : goal.invariant-loop-at
invariant-loop-at l =
    let first = l.initial.self in
    record {
      same : l.self ≡ first;
      rows : All (IsTriedRow first) l.rows.items;
      points : map (λ row. row.point) l.rows.items ≡ map (λ row. row.point) l.initial.rows.items;
      none : covers_above (costing_tree first.costing) first.threshold (nth_plan first.plans l.place) l.point (take l.at (map (λ row. row.point) l.initial.rows.items)) ≡ false;
    }
