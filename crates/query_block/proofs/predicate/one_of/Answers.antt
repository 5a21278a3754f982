use Rattle.std.proofs.Common.{rules, ◌≡◌, ap, ◌∙◌, arith}
use Rattle.std.proofs.lemmas.Grind.{common_steps}
use Rattle.std.proofs.lemmas.List.Elements.{All-get_or}
use Rattle.sql_values.specs.declared.op.Op.TheVariants.{Eq}
use Rattle.sql_values.specs.declared.truth.Truth.TheVariants as truth
use Rattle.sql_values.specs.Truth.{truth_or, comparison}
use Rattle.query_block.specs.Cells.{row_values}
use Rattle.query_block.specs.Truth.{operand_value}
use Rattle.query_block.proofs.Chains.{equals, left-next, left-stop}
use Rattle.query_block.proofs.Words.{operands-comparable}
use Rattle.query_block.proofs.predicate.one_of.Goals as goal

pub compare_with-requires-clause-kinds : goal.compare_with-requires-clause-kinds
compare_with-requires-clause-kinds c = grind (arith, common_steps, All-get_or, operands-comparable)

pub returns-then-eq : goal.returns-then-eq
returns-then-eq c =
    let row = row_values c.args.row.now in
    let chain = equals row (operand_value row c.args.of.now) in
    let decided : c.or-found.result ≡ truth.True = search rules in
    let equal = c.compare_with.ensures ∙ ap (λ value. comparison Eq value (operand_value row c.operand-item.result)) c.operand_cell-cell.ensures.value in
    left-stop chain c.args.operands.now c.or-found.result _ decided
    (left-next chain c.args.operands.now c.loop-operand.found c.or-found.result c.loop-operand.operand-index c.operand-item.result c.loop-operand-test.true c.operand-item.is
    c.loop-operand.invariant (c.or-found.ensures ∙ ap (truth_or c.loop-operand.found) equal))
