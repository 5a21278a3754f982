use Rattle.std.proofs.Common.{◌≡◌, ◌++◌, ◌∷◌, [], ◌+◌, ◌∙◌, List, ap, map, subst, sym, take, rules}
use Rattle.std.proofs.lemmas.List.{map-append, take_more}
use Rattle.std.specs.List.{AllZip}
use Rattle.query_block.proofs.Chains.{conjunct-fits}
use Rattle.query_block.specs.declared.condition.Condition.{Condition}
use Rattle.query_block.specs.Conditions.{FilterTree, filter_tree}
use Rattle.row_filter.specs.declared.recheck.ConditionRecheck.{ConditionRecheck}
use Rattle.row_filter.specs.InLists.{IsConditionRecheck}
use Rattle.row_filter.proofs.Tests.{zip-push}
use Rattle.row_filter.proofs.recheck.rechecks_of.Goals as goal

pub new-requires-clause-fits : goal.new-requires-clause-fits
new-requires-clause-fits c = conjunct-fits _ c.args.columns.now c.args.filter.now c.loop-condition.condition-index c.condition-item.result c.loop-condition-test.true c.condition-item.is c.requires.fit

pub loop-condition-preserved : goal.loop-condition-preserved
loop-condition-preserved c =
    let recheck = IsConditionRecheck c.args.texts.now c.args.columns.now in
    let filter = c.args.filter.now in
    let i = c.loop-condition.condition-index in
    let one = c.condition-item.result in
    let before = c.loop-condition.found.items in
    let items : c.push.new.self.items ≡ before ++ c.new.result ∷ [] = search rules in
    let longer : map filter_tree (take (i + 1) filter) ≡ map filter_tree (take i filter) ++ filter_tree one ∷ [] =
    ap (map filter_tree) (take_more filter i one c.loop-condition-test.true ∙ ap (λ (o : Condition). take i filter ++ o ∷ []) (sym c.condition-item.is)) ∙ map-append filter_tree (take i filter) (one ∷ []) in
    subst (λ (trees : List FilterTree). AllZip recheck trees c.push.new.self.items) (sym longer)
    (subst (λ (all : List ConditionRecheck). AllZip recheck (map filter_tree (take i filter) ++ filter_tree one ∷ []) all) (sym items)
    (zip-push recheck (map filter_tree (take i filter)) before (filter_tree one) c.new.result c.loop-condition.invariant c.new.ensures))
