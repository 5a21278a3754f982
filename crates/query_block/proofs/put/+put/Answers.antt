use Rattle.std.proofs.Common.{◌∙◌, List, map, ap}
use Rattle.std.proofs.lemmas.List.{take_all}
use Rattle.query_block.specs.declared.condition.Condition.{Condition}
use Rattle.query_block.specs.Conditions.{FilterTree, chain, filter_tree}
use Rattle.query_block.specs.Parameters.{put_condition}
use Rattle.query_block.proofs.PutIn.{put-chain}
use Rattle.query_block.proofs.put.+put.Goals as goal

pub put_conditions-returns : goal.put_conditions-returns
put_conditions-returns t c =
    let put : List Condition → List FilterTree = map (λ part. put_condition c.args.values.now (filter_tree part)) in
    let each = c.loop-i.invariant ∙ ap put (take_all c.loop-i.i c.args.parts.now c.loop-i-test.false) in
    record { each = each; chain = ap chain each ∙ put-chain c.args.values.now c.args.parts.now }
