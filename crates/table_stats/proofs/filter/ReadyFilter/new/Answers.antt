use Rattle.std.proofs.Common.{◌∙◌, All, Global, List, Vec, ap, map, refl, subst, sym}
use Rattle.std.proofs.lemmas.List.{take_all}
use Rattle.std.proofs.lemmas.List.Elements.{All-nil, All-push}
use Rattle.sql_values.specs.declared.column.ColumnType.{ColumnType}
use Rattle.query_block.specs.declared.condition.Condition.{Condition}
use Rattle.query_block.specs.Conditions.{filter_tree}
use Rattle.query_block.specs.Parameters.{fixed_of}
use Rattle.row_filter.specs.InLists.{IsConditionRecheck}
use Rattle.row_filter.proofs.Fixed.{fixed-all, fixed-at}
use Rattle.table_stats.specs.declared.filter.FixedConjunct.{FixedConjunct}
use Rattle.table_stats.specs.Ready.{own_tree}
use Rattle.table_stats.proofs.Fixed.{one-fixed, one-open}
use Rattle.table_stats.proofs.filter.ReadyFilter.new.Goals as goal
use Rattle.table_stats.proofs.filter.ReadyFilter.new.Goals.{then-not-is_open+in_ok-push, else-not-is_open}

pub new-requires-clause-fits : goal.new-requires-clause-fits
new-requires-clause-fits c =
    let relation = c.args.relation.now in
    rw c.as_slice-columns.ensures
    (fixed-at relation.columns c.as_slice-filter.result.now c.loop-condition.condition-index c.condition-item.result c.loop-condition-test.true c.condition-item.is (sym c.is_open.ensures ∙ c.if-not-is_open.true)
    (rw c.as_slice-filter.ensures (fixed-all c.requires.kinds relation.columns (map filter_tree relation.filter) c.requires.is.filter)))

pub loop-condition-init : goal.loop-condition-init
loop-condition-init c =
    let recheck = IsConditionRecheck c.args.texts.now c.as_slice-columns.result.now in
    let ready : FixedConjunct → Type 0 = λ conjunct. recheck (own_tree conjunct) conjunct.recheck in
    record {
      fixed = ap (map own_tree) c.in_ok-conjuncts.ensures.items;
      rechecks = subst (All ready) (sym c.in_ok-conjuncts.ensures.items) (All-nil ready);
    }

pub loop-condition-preserved : goal.loop-condition-preserved
loop-condition-preserved c =
    let lent = c.as_slice-filter.result.now in
    let i = c.loop-condition.condition-index in
    let item = c.condition-item.result in
    let conjuncts = c.loop-condition.conjuncts.items in
    let now = c.if-not-is_open.conjuncts.items in
    let recheck = IsConditionRecheck c.args.texts.now c.as_slice-columns.result.now in
    let ready : FixedConjunct → Type 0 = λ conjunct. recheck (own_tree conjunct) conjunct.recheck in
    let is = c.loop-condition.invariant in
    elim c.if-not-is_open.branch [
      | then-not-is_open+in_ok-push w ↦
          let more = ap (λ (v : Vec FixedConjunct Global). v.items) w.conjuncts-is ∙ w.in_ok-push.ensures.items in
          record {
            fixed = one-fixed lent i item c.loop-condition-test.true c.condition-item.is conjuncts is.fixed _ now more refl (sym c.is_open.ensures ∙ w.if-not-is_open.true);
            rechecks = subst (All ready) (sym more) (All-push ready conjuncts _ is.rechecks w.new.ensures);
          }
      | else-not-is_open w ↦
          let same = ap (λ (v : Vec FixedConjunct Global). v.items) w.conjuncts-is in
          record {
            fixed = one-open lent i item c.loop-condition-test.true c.condition-item.is conjuncts is.fixed now same (sym c.is_open.ensures ∙ w.if-not-is_open.false);
            rechecks = subst (All ready) (sym same) is.rechecks;
          }
    ]

pub returns-clause-ready : goal.returns-clause-ready
returns-clause-ready c =
    let conjuncts = c.loop-condition.conjuncts.items in
    record {
      relation = c.requires;
      fixed = c.loop-condition.invariant.fixed
          ∙ ap (λ (some : List Condition). fixed_of (map filter_tree some)) (take_all c.loop-condition.condition-index c.as_slice-filter.result.now c.loop-condition-test.false ∙ c.as_slice-filter.ensures);
      rechecks = subst (λ (columns : List ColumnType). All (λ conjunct. IsConditionRecheck c.args.texts.now columns (own_tree conjunct) conjunct.recheck) conjuncts)
          c.as_slice-columns.ensures c.loop-condition.invariant.rechecks;
    }
