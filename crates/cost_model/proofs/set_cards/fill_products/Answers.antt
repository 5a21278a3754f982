use Rattle.std.proofs.Common.{◌∙◌, ap, ◌<◌, length, get_or-set_same, refl, arith}
use Rattle.std.proofs.Math.ListN.{length-map}
use Rattle.query_block.specs.Shape.{BlockShape}
use Rattle.query_block.specs.Blocks.{relation_tree}
use Rattle.cost_model.proofs.Sets.{relation-small, in-byte, of-all}
use Rattle.cost_model.proofs.SetCards.{first-product}
use Rattle.cost_model.proofs.set_cards.fill_products.Goals as goal

pub loop-relation-init : goal.loop-relation-init
loop-relation-init c =
    let room : 0 < length c.args.products.now = omega (arith, c.told-products) in
    first-product (record { costing = c.args.costing.now; point = c.args.q.now }) _ (rw get_or-set_same refl)

pub overflow_cast-relation : goal.overflow_cast-relation
overflow_cast-relation c =
    in-byte _ (relation-small c.block.result.now _ _ c.relations-relation-end.ensures.block c.relations-relation-end.ensures.relations c.loop-relation-test.true)

pub returns : goal.returns
returns c = λ set below.
    let many = ap length (c.relations-relation-end.ensures.relations ∙ ap (λ (block : BlockShape). block.relations) c.block.ensures.block) in
    c.loop-relation.invariant set
    (of-all _ c.loop-relation.relation set (omega (arith, c.loop-relation-test.false, many, length-map c.args.costing.now.block.relations relation_tree)) below)
