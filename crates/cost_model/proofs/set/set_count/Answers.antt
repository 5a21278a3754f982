use Rattle.std.proofs.Common.{◌∙◌, sym, ◌≤◌, ◌^◌, length, ap, arith}
use Rattle.std.proofs.Math.ListN.{length-map}
use Rattle.query_block.specs.Blocks.{relation_tree}
use Rattle.cost_model.proofs.Sets.{power-to}
use Rattle.cost_model.proofs.set.set_count.Goals as goal

pub returns-clause-some : goal.returns-clause-some
returns-clause-some c =
    let count = length c.relations-count.result.now in
    let many = length-map c.args.block.now.relations relation_tree in
    let block = c.relations-count.ensures.block in
    let two : 2 ^ 1 ≤ 2 ^ count = power-to 1 count (omega (arith, many, block.some, ap length c.relations-count.ensures.relations)) in
    omega (arith, two, c.number.ensures, c.one.ensures)

pub returns-clause-few : goal.returns-clause-few
returns-clause-few c =
    let count = length c.relations-count.result.now in
    let many = length-map c.args.block.now.relations relation_tree in
    let block = c.relations-count.ensures.block in
    let few : 2 ^ count ≤ 2 ^ 6 = power-to count 6 (omega (arith, many, block.few, ap length c.relations-count.ensures.relations)) in
    omega (arith, few, c.number.ensures, c.one.ensures)

pub returns-clause-count : goal.returns-clause-count
returns-clause-count c =
    c.number.ensures ∙ c.one.ensures
    ∙ ap (λ n. 2 ^ n) (ap length c.relations-count.ensures.relations ∙ sym (length-map c.args.block.now.relations relation_tree))
