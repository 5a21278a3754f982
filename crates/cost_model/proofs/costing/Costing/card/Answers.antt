use Rattle.std.proofs.Common.{◌≡◌, ◌∙◌, ◌-◌, ◌^◌, ℕ, bit_and, length, ap, subst, sym}
use Rattle.query_block.specs.Shape.{BlockShape}
use Rattle.query_block.specs.Blocks.{block_tree}
use Rattle.cost_model.specs.Costing.{costing_tree}
use Rattle.cost_model.specs.Pricing.{Pricing}
use Rattle.cost_model.specs.Prices.{IsSetOf, block_at, card_at}
use Rattle.cost_model.proofs.OfBlock.{below-all, card-of-block}
use Rattle.cost_model.proofs.costing.Costing.card.Goals as goal

-- how many sets the block has
count : BlockShape → ℕ
count block = 2 ^ length (block_tree block).relations

pub card-requires : goal.card-requires
unfolding count
card-requires c =
    let shape = c.args.self.now in
    let at : Pricing = record { costing = shape; point = c.args.q.now } in
    let there : c.new-2.result ≡ at = λ i. record { costing = c.new-2.ensures.costing i; point = c.new-2.ensures.point i } in
    let many = c.set_count.ensures.count ∙ ap count c.block.ensures.block in
    subst (λ prices. IsSetOf (block_at prices) c.new-of_block.result) (sym there)
    (below-all c.args.set (length (costing_tree shape).block.relations) c.new-of_block.result (c.new-of_block.ensures ∙ λ i. bit_and (c.number.ensures i) (many i - 1)))

pub returns-clause-card : goal.returns-clause-card
unfolding count
returns-clause-card c =
    let shape = c.args.self.now in
    let at : Pricing = record { costing = shape; point = c.args.q.now } in
    let there : c.new-2.result ≡ at = λ i. record { costing = c.new-2.ensures.costing i; point = c.new-2.ensures.point i } in
    let many = c.set_count.ensures.count ∙ ap count c.block.ensures.block in
    c.card.ensures.card ∙ ap (λ prices. card_at prices c.new-of_block.result) there
    ∙ card-of-block (costing_tree shape) c.args.set c.new-of_block.result c.args.q.now c.block.ensures.costing
    (c.new-of_block.ensures ∙ λ i. bit_and (c.number.ensures i) (many i - 1))
