use Rattle.std.proofs.Common.{◌||◌, Bool, List, take, ap}
use Rattle.std.proofs.lemmas.List.{take_all}
use Rattle.sql_values.specs.declared.op.Op.TheVariants.{Eq}
use Rattle.sql_values.specs.Stored.{ValueRow}
use Rattle.sql_values.specs.Truth.{comparison}
use Rattle.query_block.specs.declared.condition.Operand.{Operand}
use Rattle.query_block.specs.Meaning.{is_true}
use Rattle.query_block.specs.Truth.{one_of, operand_value}
use Rattle.row_filter.proofs.Equals.{value-more}
use Rattle.row_filter.proofs.InLists.{same-list}
use Rattle.row_filter.proofs.listed.list_values.Goals as goal

pub loop-operand-preserved : goal.loop-operand-preserved
loop-operand-preserved c = λ test is.
    let of = c.args.of.now in
    let operands = c.args.operands.now in
    let i = c.loop-operand.operand-index in
    let operand = c.operand-item.result in
    let before : ValueRow → Bool = λ row. test row || is_true (one_of row (operand_value row of) (take i operands)) in
    let equal : ValueRow → Bool = λ row. is_true (comparison Eq (operand_value row of) (operand_value row operand)) in
    same-list c.args.texts.now c.args.columns.now (λ row. before row || equal row) _ c.put.new.self
    (c.put.ensures c.args.texts.now c.args.columns.now equal c.in-Some.ensures before c.if-not-put.false (c.loop-operand.invariant test is))
    (λ row. value-more operands i operand (test row) row (operand_value row of) c.loop-operand-test.true c.operand-item.is)

pub returns : goal.returns
returns c = λ test added is.
    let of = c.args.of.now in
    let operands = c.args.operands.now in
    let whole = take_all c.loop-operand.operand-index operands c.loop-operand-test.false in
    same-list c.args.texts.now c.args.columns.now _ _ c.loop-operand.list (c.loop-operand.invariant test is)
    (λ row. ap (λ (some : List Operand). test row || is_true (one_of row (operand_value row of) some)) whole)
