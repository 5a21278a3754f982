use Rattle.std.proofs.Common.{Bool, List, map, take, ap}
use Rattle.std.proofs.lemmas.List.{take_all}
use Rattle.sql_values.specs.Stored.{ValueRow}
use Rattle.query_block.specs.declared.condition.Condition.{Condition}
use Rattle.query_block.specs.Conditions.{chain, filter_tree}
use Rattle.query_block.specs.Meaning.{is_true}
use Rattle.query_block.specs.Truth.{truth_of, truth_of_all}
use Rattle.query_block.proofs.Chains.{part-fits}
use Rattle.row_filter.proofs.AndParts.{all-parts-more}
use Rattle.row_filter.proofs.Covers.{same-known}
use Rattle.row_filter.proofs.parts.shared_region.Goals as goal

pub known_words-requires-clause-fits : goal.known_words-requires-clause-fits
known_words-requires-clause-fits c =
    part-fits c.args.columns.now c.args.parts.now c.loop-part.part-index c.part-item.result c.loop-part-test.true c.part-item.is c.requires.fits

pub loop-part-init : goal.loop-part-init
loop-part-init c = c.every-known.ensures c.args.texts.now c.args.columns.now

pub loop-part-preserved : goal.loop-part-preserved
loop-part-preserved c =
    let parts = c.args.parts.now in
    let i = c.loop-part.part-index in
    let part = c.part-item.result in
    let before : ValueRow → Bool = λ row. is_true (truth_of_all (chain (map filter_tree (take i parts))) row) in
    let more : ValueRow → Bool = λ row. is_true (truth_of (filter_tree part) row) in
    same-known c.args.texts.now c.args.columns.now _ _ c.narrowed-known.result (c.narrowed-known.ensures c.args.texts.now c.args.columns.now before more c.loop-part.invariant c.known_words.ensures)
    (λ row. all-parts-more parts i part row c.loop-part-test.true c.part-item.is)

pub returns : goal.returns
returns c =
    let parts = c.args.parts.now in
    let whole = take_all c.loop-part.part-index parts c.loop-part-test.false in
    same-known c.args.texts.now c.args.columns.now _ _ c.loop-part.known c.loop-part.invariant
    (λ row. ap (λ (some : List Condition). is_true (truth_of_all (chain (map filter_tree some)) row)) whole)
