use Rattle.std.proofs.Common.{◌||◌, Bool, List, map, take, ap}
use Rattle.std.proofs.lemmas.List.{take_all}
use Rattle.sql_values.specs.Stored.{ValueRow}
use Rattle.query_block.specs.declared.condition.Condition.{Condition}
use Rattle.query_block.specs.Conditions.{chain, filter_tree}
use Rattle.query_block.specs.Meaning.{is_true}
use Rattle.query_block.specs.Truth.{truth_of, truth_of_any}
use Rattle.query_block.proofs.Chains.{part-fits}
use Rattle.row_filter.proofs.OrParts.{part-more}
use Rattle.row_filter.proofs.InLists.{same-list}
use Rattle.row_filter.proofs.listed.list_parts.Goals as goal

pub list_part-requires-clause-fits : goal.list_part-requires-clause-fits
list_part-requires-clause-fits c =
    part-fits c.args.columns.now c.args.parts.now c.loop-part.part-index c.part-item.result c.loop-part-test.true c.part-item.is c.requires.fits

pub loop-part-preserved : goal.loop-part-preserved
loop-part-preserved c = λ test is.
    let parts = c.args.parts.now in
    let i = c.loop-part.part-index in
    let part = c.part-item.result in
    let before : ValueRow → Bool = λ row. test row || is_true (truth_of_any (chain (map filter_tree (take i parts))) row) in
    same-list c.args.texts.now c.args.columns.now (λ row. before row || is_true (truth_of (filter_tree part) row)) _ c.list_part.new.list
    (c.list_part.ensures before c.if-not-list_part.false (c.loop-part.invariant test is))
    (λ row. part-more parts i part (test row) row c.loop-part-test.true c.part-item.is)

pub returns : goal.returns
returns c = λ test added is.
    let parts = c.args.parts.now in
    let whole = take_all c.loop-part.part-index parts c.loop-part-test.false in
    same-list c.args.texts.now c.args.columns.now _ _ c.loop-part.list (c.loop-part.invariant test is)
    (λ row. ap (λ (some : List Condition). test row || is_true (truth_of_any (chain (map filter_tree some)) row)) whole)
