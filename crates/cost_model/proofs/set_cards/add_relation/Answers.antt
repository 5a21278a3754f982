use Rattle.std.proofs.Common.{refl, ◌+◌, ◌^◌, ◌<◌, sym, ap, ◌∙◌, arith}
use Rattle.plan_tree.specs.Sets.{set_of}
use Rattle.cost_model.specs.Costing.{costing_tree}
use Rattle.cost_model.specs.AtPoint.{stats_at}
use Rattle.cost_model.specs.Pricing.{Pricing}
use Rattle.cost_model.specs.Cards.{kept_product}
use Rattle.cost_model.proofs.Sets.{relation-small, in-eight, up-to}
use Rattle.cost_model.proofs.SetCards.{highest-small, more-product, add-product}
use Rattle.cost_model.proofs.set_cards.add_relation.Goals as goal

pub bounds-products-rest : goal.bounds-products-rest
bounds-products-rest c =
    let less : c.loop-rest.rest < 2 ^ c.args.relation = omega (arith, c.loop-rest-test.true, (c.number-alone.ensures ∙ c.one.ensures)) in
    omega (arith, highest-small c.args.costing.now c.args.relation c.loop-rest.rest c.requires.costing c.requires.relation less)

pub overflow_mul-products : goal.overflow_mul-products
overflow_mul-products c =
    let less : c.loop-rest.rest < 2 ^ c.args.relation = omega (arith, c.loop-rest-test.true, (c.number-alone.ensures ∙ c.one.ensures)) in
    let next = more-product (record { costing = c.args.costing.now; point = c.args.q.now }) c.args.relation c.loop-rest.rest _ _ c.requires.costing c.requires.relation less
    (c.from-kept.ensures ∙ c.kept.ensures)
    (c.loop-rest.invariant.0 c.loop-rest.rest (omega (arith, c.loop-rest-test.true))) in
    omega (arith, next.1)

pub overflow_add-products : goal.overflow_add-products
overflow_add-products c =
    let less : c.loop-rest.rest < 2 ^ c.args.relation = omega (arith, c.loop-rest-test.true, (c.number-alone.ensures ∙ c.one.ensures)) in
    omega (arith, highest-small c.args.costing.now c.args.relation c.loop-rest.rest c.requires.costing c.requires.relation less, (c.number-alone.ensures ∙ c.one.ensures))

pub bounds-products-alone : goal.bounds-products-alone
bounds-products-alone c =
    let less : c.loop-rest.rest < 2 ^ c.args.relation = omega (arith, c.loop-rest-test.true, (c.number-alone.ensures ∙ c.one.ensures)) in
    omega (arith, highest-small c.args.costing.now c.args.relation c.loop-rest.rest c.requires.costing c.requires.relation less, (c.number-alone.ensures ∙ c.one.ensures))

pub loop-rest-preserved : goal.loop-rest-preserved
loop-rest-preserved c =
    let costing = c.args.costing.now in
    let at : Pricing = record { costing = costing; point = c.args.q.now } in
    let rest = c.loop-rest.rest in
    let alone = c.number-alone.result in
    let less : rest < 2 ^ c.args.relation = omega (arith, c.loop-rest-test.true, (c.number-alone.ensures ∙ c.one.ensures)) in
    let small = highest-small costing c.args.relation rest c.requires.costing c.requires.relation less in
    let next = more-product at c.args.relation rest _ _ c.requires.costing c.requires.relation less
    (c.from-kept.ensures ∙ c.kept.ensures)
    (c.loop-rest.invariant.0 rest (omega (arith, c.loop-rest-test.true))) in
    add-product at c.loop-rest.products (alone + rest) _ _ c.loop-rest.invariant.1 (omega (arith, small, (c.number-alone.ensures ∙ c.one.ensures))) (omega arith) c.loop-rest.invariant.0
    (next.0 ∙ ap (λ highest. kept_product (set_of (highest + rest)) 0 (stats_at (costing_tree costing) c.args.q.now).relations) (sym (c.number-alone.ensures ∙ c.one.ensures)))

pub one-requires : goal.one-requires
one-requires c = in-eight _ (relation-small c.args.costing.now.block _ _ c.requires.costing.block refl c.requires.relation)

pub returns : goal.returns
returns c = λ set below.
    c.loop-rest.invariant.0 set (up-to c.args.relation _ _ set (c.number-alone.ensures ∙ c.one.ensures) c.loop-rest-test.false below)
