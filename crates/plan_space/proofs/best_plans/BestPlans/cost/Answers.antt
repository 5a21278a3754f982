use Rattle.std.proofs.Common.{◌≡◌, ◌∙◌, ◌-◌, ◌^◌, ◌<◌, Some, length, ap, sym, subst, arith, length-set}
use Rattle.ess_grid.specs.Points.{points_of}
use Rattle.query_block.specs.Blocks.{block_tree}
use Rattle.cost_model.specs.Costing.{CostingShape, costing_tree}
use Rattle.cost_model.specs.Optimal.{optimal_cost}
use Rattle.plan_space.specs.Places.{HoldsAt}
use Rattle.plan_space.specs.KeptRows.{kept_row_at}
use Rattle.plan_space.specs.Alike.{AreLeastRows}
use Rattle.plan_space.specs.Table.{entry_at}
use Rattle.plan_space.proofs.Followed.{entry-optimal}
use Rattle.plan_space.proofs.Rows.{add-row}
use Rattle.plan_space.proofs.best_plans.BestPlans.cost.Goals as goal

pub returns-in-Some-clause-cost : goal.returns-in-Some-clause-cost
returns-in-Some-clause-cost c =
    let best = c.self.inside in
    let costing = best.costing.now in
    let row = c.in-Some.row.now in
    let kept : kept_row_at best.rows c.args.place ≡ Some row = sym c.in-Some.ensures in
    let all = c.set_of_all-all.ensures.all ∙ ap (λ block. 2 ^ length (block_tree block).relations - 1) c.block.ensures.block in
    subst (λ (one : CostingShape). HoldsAt one.grid c.args.place (λ q. (entry_at row c.number.result).cost ≡ optimal_cost (costing_tree one) q)) c.self.view_is
    (λ point there. ap (λ set. (entry_at row set).cost) c.number.ensures
    ∙ (entry-optimal (record { costing = costing; point = point }) row c.set_of_all-all.result c.block.ensures.costing (c.self.invariant.earlier.tables c.args.place point row kept there) all).0)

pub returns-clause-cost : goal.returns-clause-cost
returns-clause-cost c =
    let costing = c.self.inside.costing.now in
    let row = c.fill_at.new.table in
    let all = c.set_of_all-all.ensures.all ∙ ap (λ block. 2 ^ length (block_tree block).relations - 1) c.block.ensures.block in
    subst (λ (one : CostingShape). HoldsAt one.grid c.args.place (λ q. (entry_at row c.number-2.result).cost ≡ optimal_cost (costing_tree one) q)) c.self.view_is
    (λ point there. ap (λ set. (entry_at row set).cost) c.number-2.ensures
    ∙ (entry-optimal (record { costing = costing; point = point }) row c.set_of_all-all.result c.block.ensures.costing (c.fill_at.ensures point there) all).0)

pub invariant_of-self-2 : goal.invariant_of-self-2
invariant_of-self-2 c =
    let best = c.self.inside in
    let costing = best.costing.now in
    let is = c.self.invariant in
    let within : c.args.place < length best.rows =
    omega (arith, is.places, c.requires, ap (λ (one : CostingShape). length (points_of one.grid)) c.self.view_is) in
    record {
      earlier = record {
        axes = is.earlier.axes;
        tables = subst (AreLeastRows costing) (sym c.in_ok-keep.ensures.kept) (add-row costing best.rows c.fill_at.new.table c.args.place within is.earlier.tables c.fill_at.ensures);
      };
      places = ap length c.in_ok-keep.ensures.kept ∙ length-set best.rows c.args.place (Some c.fill_at.new.table) ∙ is.places;
    }
