use Rattle.cost_model.proofs.OnAxes.{few-columns, next-open, all-open}
use Rattle.cost_model.proofs.Sets.{relation-small}
use Rattle.cost_model.proofs.axes.open_columns.Goals as goal

pub open_columns_of-requires : goal.open_columns_of-requires
open_columns_of-requires c =
    few-columns c.args.block.now _ c.relations-relations.ensures.block c.relations-relations.ensures.relations c.loop-relation.relation c.index-relations-relation.result
    c.loop-relation-test.true c.index-relations-relation.is

pub bounds-columns-relation : goal.bounds-columns-relation
bounds-columns-relation c = relation-small c.args.block.now _ _ c.relations-relations.ensures.block c.relations-relations.ensures.relations c.loop-relation-test.true

pub loop-relation-preserved : goal.loop-relation-preserved
loop-relation-preserved c =
    next-open c.args.block.now _ c.relations-relations.ensures.block c.relations-relations.ensures.relations c.loop-relation.columns c.loop-relation.relation c.index-relations-relation.result
    c.open_columns_of.result c.loop-relation-test.true c.index-relations-relation.is c.open_columns_of.ensures c.loop-relation.invariant

pub returns : goal.returns
returns c =
    all-open c.args.block.now _ c.relations-relations.ensures.block c.relations-relations.ensures.relations c.loop-relation.columns c.loop-relation.relation
    c.loop-relation-test.false c.loop-relation.invariant.0
