use Rattle.std.proofs.Common.{◌≡◌, ◌∙◌, ◌<◌, ◌+◌, [], get_or, ap, subst, sym, arith}
use Rattle.std.specs.Prelude.{true, false}
use Rattle.std.proofs.lemmas.Option.{slice_get_within}
use Rattle.ess_grid.specs.Points.{GridShape, IsGrid, points_of}
use Rattle.ess_grid.specs.Order.{next_point}
use Rattle.ess_grid.proofs.GridPoints.{length-points_of}
use Rattle.cost_model.specs.Costing.{costing_tree}
use Rattle.cost_model.specs.Frontier.{is_within_cost}
use Rattle.plan_space.specs.KnownCosts.{ReachedShape}
use Rattle.plan_space.proofs.ByPlaces.{point-there}
use Rattle.plan_space.proofs.Successors.{first-axis, next-axis, stride-fits, next_point-there, one-here, none-here, from-first, from-none}
use Rattle.plan_space.proofs.reached.Reached.has_successor_within.Goals as goal
use Rattle.plan_space.proofs.reached.Reached.has_successor_within.Goals.{else-rest-levels-via-then-rest-levels+else-is_within_cost, else-rest-levels-via-else-rest-levels}

pub loop-axis-init : goal.loop-axis-init
loop-axis-init c =
    let costing = c.args.self.now.costing in
    let point = get_or (points_of costing.grid) c.args.place [] in
    let same = c.grid-grid.ensures ∙ ap (λ (one : ReachedShape). one.costing.grid) c.self.view_is in
    let levels = c.levels-levels.ensures.levels ∙ ap (λ (g : GridShape). g.levels) same in
    record {
      axes = omega (arith, ap (λ (g : GridShape). g.axes) same);
      at = first-axis costing.grid c.args.place c.levels-levels.result (subst IsGrid same c.levels-levels.ensures.grid) c.requires levels;
      ahead = from-first (is_within_cost (costing_tree costing) c.args.self.now.cost) costing.grid point;
    }

pub overflow_mul-stride : goal.overflow_mul-stride
overflow_mul-stride c =
    let below : c.loop-axis._axis < c.args.self.now.costing.grid.axes = omega arith in
    omega (arith, stride-fits c.loop-axis.invariant.at below)

pub is_within_cost-requires : goal.is_within_cost-requires
is_within_cost-requires c =
    let points = points_of c.args.self.now.costing.grid in
    let below : c.loop-axis._axis < c.args.self.now.costing.grid.axes = omega arith in
    let next = next_point (get_or points c.args.place []) c.loop-axis._axis in
    slice_get_within points (c.args.place + c.loop-axis.stride) next (next_point-there c.loop-axis.invariant.at below c.if-rest-levels.true)

pub overflow_add-place : goal.overflow_add-place
overflow_add-place c = omega (arith, is_within_cost-requires c, length-points_of c.args.self.now.costing.grid, c.loop-axis.invariant.at.of.few_points)

pub returns-then-is_within_cost : goal.returns-then-is_within_cost
returns-then-is_within_cost c =
    let costing = c.args.self.now.costing in
    let at = c.loop-axis.invariant.at in
    let here = get_or (points_of costing.grid) c.args.place [] in
    let test = is_within_cost (costing_tree costing) c.args.self.now.cost in
    let below : c.loop-axis._axis < costing.grid.axes = omega arith in
    let isn't_highest = c.if-rest-levels.true in
    let within : test (next_point here c.loop-axis._axis) ≡ true = sym (c.is_within_cost.ensures (next_point here c.loop-axis._axis) (next_point-there at below isn't_highest)) ∙ c.if-is_within_cost.true in
    λ point is.
    rw (point-there (points_of costing.grid) c.args.place point is)
    (sym (c.loop-axis.invariant.ahead ∙ (rw within at (one-here at below test isn't_highest))))

pub loop-axis-preserved : goal.loop-axis-preserved
loop-axis-preserved c =
    let costing = c.args.self.now.costing in
    let at = c.loop-axis.invariant.at in
    let here = get_or (points_of costing.grid) c.args.place [] in
    let test = is_within_cost (costing_tree costing) c.args.self.now.cost in
    let below : c.loop-axis._axis < costing.grid.axes = omega arith in
    record {
      axes = c.loop-axis.invariant.axes;
      at = next-axis at below;
      ahead = c.loop-axis.invariant.ahead
          ∙ elim c.else-rest-levels.branch [
            | else-rest-levels-via-then-rest-levels+else-is_within_cost w ↦
                let isn't_highest = w.if-rest-levels.true in
                let past : test (next_point here c.loop-axis._axis) ≡ false = sym (w.is_within_cost.ensures (next_point here c.loop-axis._axis) (next_point-there at below isn't_highest)) ∙ w.if-is_within_cost.false in
                rw past at (one-here at below test isn't_highest)
            | else-rest-levels-via-else-rest-levels w ↦ none-here at below test w.if-rest-levels.false
          ];
    }

pub returns : goal.returns
returns c =
    let costing = c.args.self.now.costing in
    let points = points_of costing.grid in
    let test = is_within_cost (costing_tree costing) c.args.self.now.cost in
    λ point is.
    rw (point-there points c.args.place point is)
    (sym (c.loop-axis.invariant.ahead ∙ from-none test costing.grid (get_or points c.args.place []) c.loop-axis._axis (omega arith)))
