use Rattle.std.proofs.Common.{◌<◌, arith}
use Rattle.plan_space.proofs.Lower.{beyond-there, stride-before}
use Rattle.plan_space.proofs.Successors.{first-axis, next-axis, stride-fits}
use Rattle.plan_space.proofs.reach.is_beyond.Goals as goal

pub loop-axis-init : goal.loop-axis-init
loop-axis-init c = record {
  axes = c.axes-axis-end.ensures;
  at = first-axis c.args.grid.now c.args.place c.levels-levels.result c.levels-levels.ensures.grid c.requires.place c.levels-levels.ensures.levels;
}

pub overflow_sub-place : goal.overflow_sub-place
overflow_sub-place c =
    let below : c.loop-axis._axis < c.args.grid.now.axes = omega arith in
    stride-before c.loop-axis.invariant.at below c.if-rest-levels-gt0.true

pub returns-then-costs-place : goal.returns-then-costs-place
returns-then-costs-place c =
    let below : c.loop-axis._axis < c.args.grid.now.axes = omega arith in
    λ yes. beyond-there c.loop-axis.invariant.at below c.if-rest-levels-gt0.true c.args.costs.now c.args.cost c.if-costs-place.true

pub overflow_mul-stride : goal.overflow_mul-stride
overflow_mul-stride c =
    let below : c.loop-axis._axis < c.args.grid.now.axes = omega arith in
    omega (arith, stride-fits c.loop-axis.invariant.at below)

pub loop-axis-preserved : goal.loop-axis-preserved
loop-axis-preserved c =
    let below : c.loop-axis._axis < c.args.grid.now.axes = omega arith in
    record { axes = c.loop-axis.invariant.axes; at = next-axis c.loop-axis.invariant.at below }
