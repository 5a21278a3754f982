use Rattle.std.proofs.Common.{◌≡◌, ◌∙◌, ◌∷◌, [], ap, map, rules, ◌<◌, length, get_or, arith}
use Rattle.std.proofs.lemmas.Grind.{common_steps}
use Rattle.std.proofs.lemmas.List.{map-append}
use Rattle.query_block.specs.Conditions.{filter_tree}
use Rattle.sql_bind.proofs.Collected.{pushed, not_pushed}
use Rattle.sql_bind.proofs.conjuncts.push_filter.Goals as goal

pub returns-in_ok-push : goal.returns-in_ok-push
returns-in_ok-push c =
    let below : c.args.relation < length c.args.filters.now.items = omega (arith, c.if-at-len.true, c.len.ensures) in
    let is : c.index_mut.result.now ≡ get_or c.args.filters.now.items c.args.relation c.index_mut.result.now = search (rules, c.index_mut.ensures.value) in
    pushed c.args.filters.now.items c.args.relation c.index_mut.result.now c.push.new.self (filter_tree c.args.condition) below is
    (ap (map filter_tree) c.in_ok-push.ensures.items ∙ map-append filter_tree c.index_mut.result.now.items (c.args.condition ∷ []))

pub returns-else-at-len : goal.returns-else-at-len
returns-else-at-len c = grind (arith, common_steps, not_pushed)
