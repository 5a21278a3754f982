use Rattle.std.proofs.Common.{refl, subst}
use Rattle.cost_model.specs.Costing.{CostingShape, costing_tree}
use Rattle.cost_model.specs.Axes.{KeepsAxes}
use Rattle.cost_model.proofs.OnAxes.{kept-axis, kept-below}
use Rattle.cost_model.proofs.Sets.{relation-small}
use Rattle.cost_model.proofs.costing.Costing.axis_of.Goals as goal

pub bounds-self-inside-relation : goal.bounds-self-inside-relation
bounds-self-inside-relation c =
    let keeps = subst (λ (one : CostingShape). KeepsAxes (costing_tree one) c.self.inside.axes c.self.inside.open_columns) c.self.view_is c.self.invariant in
    relation-small c.args.self.now.block _ c.args.relation keeps.is_costing.block refl c.requires

pub returns-clause-axis : goal.returns-clause-axis
returns-clause-axis c =
    let keeps = subst (λ (one : CostingShape). KeepsAxes (costing_tree one) c.self.inside.axes c.self.inside.open_columns) c.self.view_is c.self.invariant in
    kept-axis c.args.self.now c.self.inside.axes c.self.inside.open_columns c.args.relation keeps c.requires

pub returns-clause-of_grid : goal.returns-clause-of_grid
returns-clause-of_grid c =
    let keeps = subst (λ (one : CostingShape). KeepsAxes (costing_tree one) c.self.inside.axes c.self.inside.open_columns) c.self.view_is c.self.invariant in
    kept-below c.args.self.now c.self.inside.axes c.self.inside.open_columns c.args.relation keeps c.requires
