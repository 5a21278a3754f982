use Rattle.std.proofs.Common.{◌≡◌, ◌^◌, length, ap, subst, ◌∙◌, arith}
use Rattle.std.proofs.Math.ListN.{length-map}
use Rattle.query_block.specs.Blocks.{relation_tree}
use Rattle.plan_space.specs.Table.{AreLeast}
use Rattle.cost_model.specs.Prices.{own_at, block_at}
use Rattle.plan_space.proofs.table.fill.Goals as goal

pub returns : goal.returns
returns c =
    let at = c.args.prices.now in
    let lent = ap length (c.relations-relation-end.ensures.relations ∙ ap (λ block. block.relations) c.block.ensures.block) in
    let count : c.loop-relation.relation ≡ length (block_at at).relations =
    omega (arith, lent, length-map at.costing.block.relations relation_tree, c.loop-relation-test.false, c.loop-relation.auto.relation-end) in
    subst (AreLeast (own_at at) (block_at at) c.loop-relation.table) (ap (λ n. 2 ^ n) count) c.loop-relation.invariant
