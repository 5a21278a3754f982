use Rattle.std.proofs.Common.{◌≡◌, All, map, take}
use Rattle.std.specs.List.{filter}
use Rattle.ess_grid.specs.Points.{points_of}
use Rattle.cost_model.specs.Costing.{costing_tree}
use Rattle.cost_model.specs.Frontier.{is_on_frontier}
use Rattle.plan_space.specs.SurfacePoints.{IsSurfacePoint}
use Rattle.plan_space.proofs.reached.Reached.frontier.Given as goal

abbrev pub invariant-loop-place : goal.invariant-loop-place
invariant-loop-place l =
    let costing = l.self.costing in
    record {
      points : map (λ at. at.point) l.found.items ≡ filter (is_on_frontier (costing_tree costing) l.self.cost) (take l.place (points_of costing.grid));
      each : All (IsSurfacePoint (costing_tree costing)) l.found.items;
    }
