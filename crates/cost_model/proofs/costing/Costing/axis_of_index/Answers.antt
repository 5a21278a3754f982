use Rattle.std.proofs.Common.{◌∙◌, true, false, not, length, get_or, refl, ap, sym, subst, arith}
use Rattle.query_block.specs.Shape.{BlockShape}
use Rattle.query_block.specs.Blocks.{block_tree}
use Rattle.cost_model.specs.Costing.{CostingShape, costing_tree}
use Rattle.cost_model.specs.Axes.{KeepsAxes}
use Rattle.cost_model.proofs.Sets.{relation-small}
use Rattle.cost_model.proofs.OnAxes.{none-is, few-columns, axis-without, axis-beyond, axis-if}
use Rattle.cost_model.proofs.costing.Costing.axis_of_index.Goals as goal

pub returns-then-is_none-clause-axis : goal.returns-then-is_none-clause-axis
returns-then-is_none-clause-axis c =
    sym (axis-without (block_tree c.args.self.now.block) c.args.relation c.args.column c.axis_of-axis.result c.axis_of-axis.ensures.axis
    (none-is c.axis_of-axis.result (c.is_none.ensures ∙ ap not c.if-is_none.true)))

pub returns-then-column-as_slice-clause-axis : goal.returns-then-column-as_slice-clause-axis
returns-then-column-as_slice-clause-axis c =
    let relation = c.args.relation in
    let counted = c.index-relations-relation.result in
    let relations = c.relations.ensures.relations ∙ ap (λ (block : BlockShape). block.relations) c.block.ensures.block in
    sym (axis-beyond c.args.self.now.block relation c.args.column counted c.block.ensures.costing.block c.requires
    (c.index-relations-relation.is ∙ ap (λ all. get_or all relation counted) relations) (omega (arith, ap length c.as_slice.ensures, c.if-column-as_slice.true)))

pub returns-then-self-relation-clause-axis : goal.returns-then-self-relation-clause-axis
returns-then-self-relation-clause-axis c =
    let relation = c.args.relation in
    let counted = c.index-relations-relation.result in
    let relations = c.relations.ensures.relations ∙ ap (λ (block : BlockShape). block.relations) c.block.ensures.block in
    let keeps = subst (λ (one : CostingShape). KeepsAxes (costing_tree one) c.self.inside.axes c.self.inside.open_columns) c.self.view_is c.self.invariant in
    axis-if c.args.self.now.block relation c.args.column counted c.block.ensures.costing.block c.requires (c.index-relations-relation.is ∙ ap (λ all. get_or all relation counted) relations)
    c.self.inside.open_columns true c.axis_of-axis.result keeps.of_columns (omega (arith, ap length c.as_slice.ensures, c.if-column-as_slice.false)) c.if-self-relation.true c.axis_of-axis.ensures.axis

pub returns-clause-axis : goal.returns-clause-axis
returns-clause-axis c =
    let relation = c.args.relation in
    let counted = c.index-relations-relation.result in
    let relations = c.relations.ensures.relations ∙ ap (λ (block : BlockShape). block.relations) c.block.ensures.block in
    let keeps = subst (λ (one : CostingShape). KeepsAxes (costing_tree one) c.self.inside.axes c.self.inside.open_columns) c.self.view_is c.self.invariant in
    axis-if c.args.self.now.block relation c.args.column counted c.block.ensures.costing.block c.requires (c.index-relations-relation.is ∙ ap (λ all. get_or all relation counted) relations)
    c.self.inside.open_columns false c.axis_of-axis.result keeps.of_columns (omega (arith, ap length c.as_slice.ensures, c.if-column-as_slice.false)) c.if-self-relation.false c.axis_of-axis.ensures.axis

pub bounds-self-inside-relation : goal.bounds-self-inside-relation
bounds-self-inside-relation c = relation-small c.args.self.now.block _ c.args.relation c.block.ensures.costing.block refl c.requires

pub bounds-self-inside-column : goal.bounds-self-inside-column
bounds-self-inside-column c =
    let relations = c.relations.ensures.relations ∙ ap (λ (block : BlockShape). block.relations) c.block.ensures.block in
    let few = few-columns c.args.self.now.block _ c.block.ensures.costing.block relations c.args.relation c.index-relations-relation.result
    (omega (arith, c.requires, ap length relations)) c.index-relations-relation.is in
    omega (arith, few, ap length c.as_slice.ensures, c.if-column-as_slice.false)

pub returns-then-is_none-clause-of_grid : goal.returns-then-is_none-clause-of_grid
returns-then-is_none-clause-of_grid c = tt

pub returns-then-column-as_slice-clause-of_grid : goal.returns-then-column-as_slice-clause-of_grid
returns-then-column-as_slice-clause-of_grid c = tt

pub returns-then-self-relation-clause-of_grid : goal.returns-then-self-relation-clause-of_grid
returns-then-self-relation-clause-of_grid c = c.axis_of-axis.ensures.of_grid

pub returns-clause-of_grid : goal.returns-clause-of_grid
returns-clause-of_grid c = tt
