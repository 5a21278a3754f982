use Rattle.std.proofs.Common.{◌∙◌, is_some, ap, sym, map, arith}
use Rattle.std.proofs.lemmas.Grind.{common_steps}
use Rattle.std.proofs.lemmas.Result.{err_from_is_err_and}
use Rattle.std.proofs.lemmas.List.{map-append}
use Rattle.std.proofs.Math.Nat.{sub-zero}
use Rattle.sql_parse.specs.Trees.{condition_tree}
use Rattle.sql_parse.specs.Reading.{after_mark, separator_of, part_at, group_at}
use Rattle.sql_parse.proofs.Lists.{list_with_first-first, list_with_first-end, more_at-end, more_at-zero, list_with_first-next, list_with_first-fails}
use Rattle.sql_parse.proofs.Chains.{none_if, chain_at-one, chain_at-many, chain_at-fails, as_tree, as_tree-fails}
use Rattle.sql_parse.proofs.condition.+condition.Goals as goal

pub chain-returns-in_err-first : goal.chain-returns-in_err-first
chain-returns-in_err-first t c = grind (arith, common_steps, err_from_is_err_and, chain_at-fails)

pub chain-returns-then-is_none : goal.chain-returns-then-is_none
chain-returns-then-is_none t c = grind (arith, common_steps, none_if, chain_at-one)

pub chain-returns : goal.chain-returns
chain-returns t c = grind (arith, common_steps, is_some, chain_at-many, as_tree)

pub chain-returns-in_err-parts : goal.chain-returns-in_err-parts
chain-returns-in_err-parts t c = grind (arith, common_steps, err_from_is_err_and, is_some, chain_at-many, as_tree-fails)

pub parts-loop-turn-init : goal.parts-loop-turn-init
parts-loop-turn-init t c =
    rw (c.in_ok-push.ensures.items, c.new-parts.ensures.items, sub-zero, c.len-turn-end.ensures)
    (list_with_first-first (condition_tree c.args.first) (part_at c.args.connective (group_at c.args.nesting)) (separator_of c.args.connective) c.args.piece)

pub parts-returns-in_default : goal.parts-returns-in_default
parts-returns-in_default t c = grind (arith, common_steps, list_with_first-end, more_at-end)

pub parts-returns-in_err-next : goal.parts-returns-in_err-next
parts-returns-in_err-next t c = grind (arith, common_steps, err_from_is_err_and, list_with_first-fails)

pub parts-loop-turn-preserved : goal.parts-loop-turn-preserved
parts-loop-turn-preserved t c =
    let goes_on = ap (λ separator. after_mark separator c.loop-turn.rest) (sym c.separator-separator.ensures) ∙ (sym c.after.ensures ∙ c.in-Some.is) in
    rw (c.in_ok-push-2.ensures.items, map-append) (list_with_first-next (condition_tree c.args.first) (part_at c.args.connective (group_at c.args.nesting))
    (separator_of c.args.connective) c.args.piece (map condition_tree c.loop-turn.parts.items) c.len-turn-end.result c.loop-turn._turn
    (condition_tree c.in_ok-next.next) c.loop-turn.rest c.in-Some.after c.in_ok-next.following c.loop-turn-test.true goes_on c.in_ok-next.ensures c.loop-turn.invariant)

pub parts-returns : goal.parts-returns
parts-returns t c = grind (arith, common_steps, list_with_first-end, more_at-zero)
