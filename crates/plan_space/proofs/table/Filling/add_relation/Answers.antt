use Rattle.std.proofs.Common.{◌≡◌, ◌+◌, ◌^◌, ◌<◌, length, sym, subst, ◌∙◌, arith}
use Rattle.std.proofs.Math.ListN.{length-map, length-set}
use Rattle.std.proofs.lemmas.Nat.{pow_pos}
use Rattle.query_block.specs.Blocks.{relation_tree}
use Rattle.plan_space.specs.Table.{IsLeast, AreLeast}
use Rattle.cost_model.specs.Pricing.{Pricing}
use Rattle.cost_model.specs.Costing.{IsCosting, costing_tree}
use Rattle.cost_model.specs.Prices.{own_at, block_at}
use Rattle.cost_model.proofs.Sets.{next-power, sets-below}
use Rattle.plan_space.proofs.Filled.{add-least}
use Rattle.plan_space.proofs.table.Filling.add_relation.Goals as goal

pub entry_here-requires-clause-filled : goal.entry_here-requires-clause-filled
entry_here-requires-clause-filled c =
    let relation = c.args.relation in
    let rest = c.loop-rest.rest in
    let all = (block_at c.args.self.now).relations in
    let many = length-map c.args.self.now.costing.block.relations relation_tree in
    let alone = (c.number-alone.ensures ∙ c.one.ensures) in
    let less : rest < 2 ^ relation = omega (arith, alone, c.loop-rest-test.true) in
    let below : 2 ^ relation + rest < 2 ^ length all = sets-below relation (length all) rest (omega (arith, c.requires.relation, many)) less in
    let small : 2 ^ relation + rest < 2 ^ 6 = sets-below relation 6 rest (omega (arith, c.requires.relation, many, (subst (λ (at : Pricing). IsCosting (costing_tree at.costing)) c.self.view_is c.block-block.ensures.costing).block.few)) less in
    record {
      some = omega (arith, c.new.ensures, alone, pow_pos relation);
      below = omega (arith, c.new.ensures, alone, below);
      small = omega (arith, c.new.ensures, alone, small);
      filled = subst (AreLeast (own_at c.args.self.now) (block_at c.args.self.now) c.loop-rest.table) (sym c.new.ensures) c.loop-rest.invariant.0;
    }

pub bounds-table-set : goal.bounds-table-set
bounds-table-set c =
    let relation = c.args.relation in
    let rest = c.loop-rest.rest in
    let many = length-map c.args.self.now.costing.block.relations relation_tree in
    let alone = (c.number-alone.ensures ∙ c.one.ensures) in
    let less : rest < 2 ^ relation = omega (arith, alone, c.loop-rest-test.true) in
    let small : 2 ^ relation + rest < 2 ^ 6 = sets-below relation 6 rest (omega (arith, c.requires.relation, many, (subst (λ (at : Pricing). IsCosting (costing_tree at.costing)) c.self.view_is c.block-block.ensures.costing).block.few)) less in
    omega (arith, alone, small)

pub loop-rest-preserved : goal.loop-rest-preserved
loop-rest-preserved c =
    let at = c.args.self.now in
    let relation = c.args.relation in
    let rest = c.loop-rest.rest in
    let set = c.number-alone.result + rest in
    let many = length-map at.costing.block.relations relation_tree in
    let alone = (c.number-alone.ensures ∙ c.one.ensures) in
    let less : rest < 2 ^ relation = omega (arith, alone, c.loop-rest-test.true) in
    let small : 2 ^ relation + rest < 2 ^ 6 = sets-below relation 6 rest (omega (arith, c.requires.relation, many, (subst (λ (at : Pricing). IsCosting (costing_tree at.costing)) c.self.view_is c.block-block.ensures.costing).block.few)) less in
    let more = add-least (own_at at) (block_at at) c.loop-rest.table set c.entry_here.result c.loop-rest.invariant.1 (omega (arith, alone, small)) c.loop-rest.invariant.0
    (subst (λ one. IsLeast (own_at at) (block_at at) c.loop-rest.table one c.entry_here.result) c.new.ensures c.entry_here.ensures) in
    let next : set + 1 ≡ c.number-alone.result + (rest + 1) = omega arith in (
      subst (AreLeast (own_at at) (block_at at) _) next more,
      length-set c.loop-rest.table set c.entry_here.result ∙ c.loop-rest.invariant.1,
    )

pub returns : goal.returns
returns c =
    let at = c.args.self.now in
    let whole : c.number-alone.result + c.loop-rest.rest ≡ 2 ^ (c.args.relation + 1) =
    omega (arith, (c.number-alone.ensures ∙ c.one.ensures), next-power c.args.relation, c.loop-rest-test.false, c.loop-rest.auto.rest-end) in
    subst (AreLeast (own_at at) (block_at at) c.loop-rest.table) whole c.loop-rest.invariant.0
