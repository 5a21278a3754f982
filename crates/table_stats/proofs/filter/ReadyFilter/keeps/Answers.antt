use Rattle.std.proofs.Common.{◌≡◌, ◌<◌, ◌∙◌, true, false, List, [], get_or, length, map, ap, sym, subst}
use Rattle.std.proofs.lemmas.List.{at_drop_all}
use Rattle.sql_values.specs.Stored.{values_of}
use Rattle.sql_values.specs.declared.column.ColumnType.{ColumnType}
use Rattle.query_block.specs.Meaning.{is_true, meets_filter}
use Rattle.query_block.specs.Truth.{truth_of}
use Rattle.table_stats.specs.declared.filter.FixedConjunct.{FixedConjunct}
use Rattle.table_stats.specs.Ready.{own_tree, own_values}
use Rattle.query_block.specs.Blocks.{FitsColumns}
use Rattle.table_stats.proofs.Fixed.{conjunct-fit}
use Rattle.table_stats.proofs.Ready.{met-next}
use Rattle.table_stats.proofs.filter.ReadyFilter.keeps.Goals as goal

pub is_met-requires-clause-fits : goal.is_met-requires-clause-fits
is_met-requires-clause-fits c =
    let filter = c.args.self.now in
    let i = c.loop-conjunct.conjunct-index in
    let item = c.conjunct-item.result in
    let lent = c.deref-conjunct-items.ensures.value in
    let below : i < length filter.conjuncts.items = subst (λ (all : List FixedConjunct). i < length all) lent c.loop-conjunct-test.true in
    let is : item ≡ get_or filter.conjuncts.items i item = c.conjunct-item.is ∙ ap (λ (all : List FixedConjunct). get_or all i item) lent in
    rw c.as_slice-columns.ensures
    (subst (λ (one : FixedConjunct). FitsColumns [] filter.relation.now.columns (own_tree one)) (sym is) (conjunct-fit filter i item c.requires.ready below))

pub returns-then-not-is_met : goal.returns-then-not-is_met
returns-then-not-is_met c =
    let row = own_values c.args.self.now c.args.row.now in
    let item = c.conjunct-item.result in
    let tried : c.is_met.result ≡ is_true (truth_of (own_tree item) row) =
    c.is_met.ensures ∙ ap (λ (columns : List ColumnType). is_true (truth_of (own_tree item) (values_of c.args.self.now.texts.now columns c.args.row.now))) c.as_slice-columns.ensures in
    sym (c.loop-conjunct.invariant
    ∙ met-next c.deref-conjunct-items.result.now c.loop-conjunct.conjunct-index item c.loop-conjunct-test.true c.conjunct-item.is row false (sym c.if-not-is_met.true ∙ tried))

pub loop-conjunct-preserved : goal.loop-conjunct-preserved
loop-conjunct-preserved c =
    let row = own_values c.args.self.now c.args.row.now in
    let item = c.conjunct-item.result in
    let tried : c.is_met.result ≡ is_true (truth_of (own_tree item) row) =
    c.is_met.ensures ∙ ap (λ (columns : List ColumnType). is_true (truth_of (own_tree item) (values_of c.args.self.now.texts.now columns c.args.row.now))) c.as_slice-columns.ensures in
    c.loop-conjunct.invariant
    ∙ met-next c.deref-conjunct-items.result.now c.loop-conjunct.conjunct-index item c.loop-conjunct-test.true c.conjunct-item.is row true (sym c.if-not-is_met.false ∙ tried)

pub returns : goal.returns
returns c =
    let row = own_values c.args.self.now c.args.row.now in
    sym (c.loop-conjunct.invariant
    ∙ at_drop_all (λ (all : List FixedConjunct). meets_filter (map own_tree all) row) c.deref-conjunct-items.result.now c.loop-conjunct.conjunct-index c.loop-conjunct-test.false)
