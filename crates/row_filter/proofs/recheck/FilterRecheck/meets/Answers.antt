use Rattle.std.proofs.Common.{◌≡◌, ◌+◌, ◌<◌, ◌&&◌, ◌∙◌, ◌∷◌, Bool, List, ap, arith, drop, get_or, inl, inr, length, map, refl, subst, sym}
use Rattle.std.proofs.lemmas.List.{at_drop_all, at_drop_more, get_or-map, length-map}
use Rattle.query_block.proofs.Chains.{conjunct-fits}
use Rattle.query_block.specs.declared.condition.Condition.{Condition}
use Rattle.query_block.specs.Conditions.{FilterTree, filter_tree}
use Rattle.query_block.specs.Meaning.{meets_filter}
use Rattle.sql_values.specs.Stored.{values_of}
use Rattle.row_filter.specs.declared.recheck.ConditionRecheck.{ConditionRecheck}
use Rattle.row_filter.specs.InLists.{IsConditionRecheck}
use Rattle.row_filter.proofs.Tests.{zip-at, zip-length}
use Rattle.row_filter.proofs.recheck.FilterRecheck.meets.Goals as goal

pub loop-place-init : goal.loop-place-init
loop-place-init c = record {
  each = elim c.requires.recheck [
    | inl none ↦ absurd (grind (arith, none, c.if-is_empty.ensures))
    | inr each ↦ each
  ];
  left = refl;
}

pub index-requires : goal.index-requires
index-requires c =
    let conditions = c.args.self.now.conditions.items in
    let trees = map filter_tree c.args.filter.now in
    let same : length trees ≡ length conditions = zip-length (IsConditionRecheck c.args.texts.now c.args.columns.now) trees conditions c.loop-place.invariant.each in
    omega (arith, same, length-map c.args.filter.now filter_tree, c.loop-place-test.true)

pub is_met-requires-clause-recheck : goal.is_met-requires-clause-recheck
is_met-requires-clause-recheck c =
    let recheck = IsConditionRecheck c.args.texts.now c.args.columns.now in
    let conditions = c.args.self.now.conditions.items in
    let filter = c.args.filter.now in
    let trees = map filter_tree filter in
    let i = c.loop-place.place in
    let one = c.index-filter-place.result in
    let own = c.index.result.now in
    let same : length trees ≡ length conditions = zip-length recheck trees conditions c.loop-place.invariant.each in
    let inside : i < length conditions = omega (arith, same, length-map filter filter_tree, c.loop-place-test.true) in
    let tree : get_or trees i (filter_tree one) ≡ filter_tree one = get_or-map filter_tree filter i one (filter_tree one) c.loop-place-test.true ∙ ap filter_tree (sym c.index-filter-place.is) in
    let here : recheck (get_or trees i (filter_tree one)) (get_or conditions i own) = zip-at recheck trees conditions i (filter_tree one) own c.loop-place.invariant.each inside in
    subst (λ (o : ConditionRecheck). recheck (filter_tree one) o) (sym c.index.ensures) (subst (λ (t : FilterTree). recheck t (get_or conditions i own)) tree here)

pub is_met-requires-clause-fits : goal.is_met-requires-clause-fits
is_met-requires-clause-fits c = conjunct-fits _ c.args.columns.now c.args.filter.now c.loop-place.place c.index-filter-place.result c.loop-place-test.true c.index-filter-place.is c.requires.fit

pub returns-then-not-is_met : goal.returns-then-not-is_met
returns-then-not-is_met c =
    let row = values_of c.args.texts.now c.args.columns.now c.args.row.now in
    let all : List Condition → Bool = λ (some : List Condition). meets_filter (map filter_tree some) row in
    let rest = drop (c.loop-place.place + 1) c.args.filter.now in
    sym (c.loop-place.invariant.left
    ∙ at_drop_more all c.args.filter.now c.loop-place.place c.index-filter-place.result c.loop-place-test.true
    ∙ ap (λ (one : Condition). all (one ∷ rest)) (sym c.index-filter-place.is)
    ∙ ap (λ b. b && all rest) (sym c.is_met.ensures ∙ c.if-not-is_met.true))

pub loop-place-preserved : goal.loop-place-preserved
loop-place-preserved c =
    let row = values_of c.args.texts.now c.args.columns.now c.args.row.now in
    let all : List Condition → Bool = λ (some : List Condition). meets_filter (map filter_tree some) row in
    let rest = drop (c.loop-place.place + 1) c.args.filter.now in
    record {
      each = c.loop-place.invariant.each;
      left = c.loop-place.invariant.left
          ∙ at_drop_more all c.args.filter.now c.loop-place.place c.index-filter-place.result c.loop-place-test.true
          ∙ ap (λ (one : Condition). all (one ∷ rest)) (sym c.index-filter-place.is)
          ∙ ap (λ b. b && all rest) (sym c.is_met.ensures ∙ c.if-not-is_met.false);
    }

pub returns : goal.returns
returns c =
    let row = values_of c.args.texts.now c.args.columns.now c.args.row.now in
    let all : List Condition → Bool = λ (some : List Condition). meets_filter (map filter_tree some) row in
    sym (c.loop-place.invariant.left ∙ at_drop_all all c.args.filter.now c.loop-place.place c.loop-place-test.false)
