use Rattle.std.proofs.Common.{◌≡◌, None}
use Rattle.query_block.specs.Blocks.{block_tree, axis_of}
use Rattle.cost_model.proofs.OnAxes.{next-told, all-axes}
use Rattle.cost_model.proofs.Sets.{relation-small, in-byte}
use Rattle.cost_model.proofs.axes.relation_axes.Goals as goal

pub overflow_cast-relation : goal.overflow_cast-relation
overflow_cast-relation c =
    in-byte _ (relation-small c.args.block.now _ _ c.relations-relation-end.ensures.block c.relations-relation-end.ensures.relations c.loop-relation-test.true)

pub bounds-axes-relation : goal.bounds-axes-relation
bounds-axes-relation c =
    relation-small c.args.block.now _ _ c.relations-relation-end.ensures.block c.relations-relation-end.ensures.relations c.loop-relation-test.true

pub loop-relation-preserved : goal.loop-relation-preserved
loop-relation-preserved c =
    next-told (λ relation axis. axis ≡ axis_of (block_tree c.args.block.now) relation) c.loop-relation.axes c.loop-relation.relation 6 c.axis_of.result None
    (relation-small c.args.block.now _ _ c.relations-relation-end.ensures.block c.relations-relation-end.ensures.relations c.loop-relation-test.true)
    c.axis_of.ensures c.loop-relation.invariant

pub returns-clause-axes : goal.returns-clause-axes
returns-clause-axes c =
    all-axes c.args.block.now _ c.loop-relation.axes c.loop-relation.relation c.relations-relation-end.ensures.relations c.loop-relation-test.false c.loop-relation.invariant.0
