use Rattle.std.proofs.Common.{◌≡◌, [], get_or}
use Rattle.std.specs.List.{list_any}
use Rattle.ess_grid.specs.Points.{points_of}
use Rattle.ess_grid.specs.Order.{successors}
use Rattle.cost_model.specs.Costing.{costing_tree}
use Rattle.cost_model.specs.Frontier.{is_within_cost}
use Rattle.plan_space.proofs.Successors.{IsAtAxis, any_from}
use Rattle.plan_space.proofs.reached.Reached.has_successor_within.Given as goal

abbrev pub invariant-loop-axis : goal.invariant-loop-axis
invariant-loop-axis l =
    let grid = l.self.costing.grid in
    let point = get_or (points_of grid) l.place [] in
    let within = is_within_cost (costing_tree l.self.costing) l.self.cost in
    record {
      axes : l._axis-end ≡ grid.axes;
      at : IsAtAxis grid l.place l.levels l._axis l.rest l.stride;
      ahead : list_any within (successors grid point) ≡ any_from within grid point l._axis;
    }
