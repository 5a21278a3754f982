use Rattle.std.proofs.Common.{◌^◌, ◌<◌, length, ap, ◌∙◌, arith}
use Rattle.plan_tree.specs.Sets.{set_of}
use Rattle.query_block.specs.Blocks.{block_tree}
use Rattle.cost_model.specs.Costing.{costing_tree}
use Rattle.cost_model.specs.Pricing.{Pricing}
use Rattle.cost_model.specs.Prices.{IsSetOf, block_at}
use Rattle.cost_model.proofs.Bounds.{product-few}
use Rattle.cost_model.proofs.SetCards.{halved-card, add-card}
use Rattle.cost_model.proofs.set_cards.halve_products.Goals as goal

pub halved-requires : goal.halved-requires
halved-requires c =
    let costing = costing_tree c.args.costing.now in
    let set = c.loop-set.set in
    let count = c.set_count-set-end.ensures.count ∙ ap (λ block. 2 ^ length (block_tree block).relations) c.block.ensures.block in
    let product = c.loop-set.invariant.1 set (omega arith) (omega (arith, c.loop-set-test.true, count)) in
    omega (arith, product, product-few costing (set_of set) c.args.q.now c.block.ensures.costing)

pub loop-set-preserved : goal.loop-set-preserved
loop-set-preserved c =
    let at : Pricing = record { costing = c.args.costing.now; point = c.args.q.now } in
    let set = c.loop-set.set in
    let count = c.set_count-set-end.ensures.count ∙ ap (λ block. 2 ^ length (block_tree block).relations) c.block.ensures.block in
    let below : IsSetOf (block_at at) set = omega (arith, c.loop-set-test.true, count) in
    let small : set < 64 = omega (arith, c.loop-set-test.true, c.set_count-set-end.ensures.few) in
    let card = halved-card at set _ _ (c.requires.halvings set small) (c.loop-set.invariant.1 set (omega arith) below) in
    add-card at c.loop-set.cards set c.halved.result c.loop-set.invariant.2 small
    c.loop-set.invariant.0 c.loop-set.invariant.1 (c.halved.ensures.halved ∙ card)
