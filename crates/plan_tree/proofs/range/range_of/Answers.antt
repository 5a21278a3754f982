use Rattle.std.proofs.Common.{arith, ◌+◌, ◌&&◌, List, ◌∷◌, map, filter, drop, sym, ap, ◌∙◌}
use Rattle.std.proofs.lemmas.List.{at_drop_all, at_drop_more}
use Rattle.std.proofs.Math.Bool.{and-true}
use Rattle.sql_values.specs.Words.{word_of}
use Rattle.query_block.specs.declared.condition.Condition.{Condition}
use Rattle.query_block.specs.Conditions.{filter_tree}
use Rattle.query_block.specs.Truth.{value_at}
use Rattle.query_block.specs.Meaning.{meets_filter}
use Rattle.query_block.proofs.Chains.{conjunct-fits}
use Rattle.plan_tree.specs.Usable.{is_fixed_usable}
use Rattle.plan_tree.specs.Ranges.{is_in}
use Rattle.plan_tree.proofs.Narrowing.{every-word, next-conjunct}
use Rattle.plan_tree.proofs.range.range_of.Goals as goal

pub loop-conjunct-init : goal.loop-conjunct-init
loop-conjunct-init c = λ kinds columns fit row stored. grind (arith, every-word (word_of c.args.texts.now (value_at row c.args.column)) stored.fits)

pub loop-conjunct-preserved : goal.loop-conjunct-preserved
loop-conjunct-preserved c = λ kinds columns fit row stored.
    let all = c.args.conjuncts.now in
    let i = c.loop-conjunct.conjunct-index in
    let item = c.conjunct-item.result in
    let w = word_of c.args.texts.now (value_at row c.args.column) in
    let fits = conjunct-fits kinds columns all i item c.loop-conjunct-test.true c.conjunct-item.is fit in
    let whole = λ (more : List Condition). is_in c.loop-conjunct.range w && meets_filter (filter (is_fixed_usable columns c.args.column) (map filter_tree more)) row in
    next-conjunct columns c.args.column (filter_tree item) (map filter_tree (drop (i + 1) all)) row (is_in c.loop-conjunct.range w) (is_in c.narrowed-range.result w)
    (c.narrowed-range.ensures kinds columns fits row stored)
    ∙ ap (λ (first : Condition). whole (first ∷ drop (i + 1) all)) c.conjunct-item.is ∙ sym (at_drop_more whole all i item c.loop-conjunct-test.true)
    ∙ c.loop-conjunct.invariant kinds columns fit row stored

pub returns : goal.returns
returns c = λ kinds columns fit row stored.
    let w = word_of c.args.texts.now (value_at row c.args.column) in
    sym (and-true (is_in c.loop-conjunct.range w))
    ∙ sym (at_drop_all (λ (more : List Condition). is_in c.loop-conjunct.range w && meets_filter (filter (is_fixed_usable columns c.args.column) (map filter_tree more)) row)
    c.args.conjuncts.now c.loop-conjunct.conjunct-index c.loop-conjunct-test.false)
    ∙ c.loop-conjunct.invariant kinds columns fit row stored
