use Rattle.std.proofs.Common.{◌≡◌, ◌∙◌, true, false, List, map, ap, sym}
use Rattle.std.specs.List.{list_all}
use Rattle.std.proofs.lemmas.List.{at_drop_all}
use Rattle.sql_values.specs.declared.column.ColumnType.{ColumnType}
use Rattle.plan_tree.specs.Usable.{is_usable}
use Rattle.table_stats.specs.declared.filter.FixedConjunct.{FixedConjunct}
use Rattle.table_stats.specs.Ready.{own_tree}
use Rattle.table_stats.proofs.Ready.{all-next}
use Rattle.table_stats.proofs.filter.ReadyFilter.uses_all.Goals as goal

pub returns-then-not-is_usable : goal.returns-then-not-is_usable
returns-then-not-is_usable c =
    let usable = is_usable c.args.self.now.relation.now.columns c.args.column in
    let item = c.conjunct-item.result in
    let tried : c.is_usable.result ≡ usable (own_tree item) =
    c.is_usable.ensures ∙ ap (λ (columns : List ColumnType). is_usable columns c.args.column (own_tree item)) c.as_slice-columns.ensures in
    sym (c.loop-conjunct.invariant
    ∙ all-next c.deref-conjunct-items.result.now c.loop-conjunct.conjunct-index item c.loop-conjunct-test.true c.conjunct-item.is usable false (sym c.if-not-is_usable.true ∙ tried))

pub loop-conjunct-preserved : goal.loop-conjunct-preserved
loop-conjunct-preserved c =
    let usable = is_usable c.args.self.now.relation.now.columns c.args.column in
    let item = c.conjunct-item.result in
    let tried : c.is_usable.result ≡ usable (own_tree item) =
    c.is_usable.ensures ∙ ap (λ (columns : List ColumnType). is_usable columns c.args.column (own_tree item)) c.as_slice-columns.ensures in
    c.loop-conjunct.invariant
    ∙ all-next c.deref-conjunct-items.result.now c.loop-conjunct.conjunct-index item c.loop-conjunct-test.true c.conjunct-item.is usable true (sym c.if-not-is_usable.false ∙ tried)

pub returns : goal.returns
returns c =
    let usable = is_usable c.args.self.now.relation.now.columns c.args.column in
    sym (c.loop-conjunct.invariant
    ∙ at_drop_all (λ (all : List FixedConjunct). list_all usable (map own_tree all)) c.deref-conjunct-items.result.now c.loop-conjunct.conjunct-index c.loop-conjunct-test.false)
