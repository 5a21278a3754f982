use Rattle.std.proofs.Common.{◌≡◌, ◌∙◌, ◌+◌, ◌++◌, ◌∷◌, [], List, ap, drop, map, sym, take}
use Rattle.std.proofs.lemmas.List.{map-append, take_all}
use Rattle.query_block.specs.Conditions.{FilterTree, chain, filter_tree}
use Rattle.sql_parse.specs.declared.tree.Cond.{Cond}
use Rattle.sql_parse.specs.Trees.{condition_tree, operands}
use Rattle.sql_bind.specs.Predicates.{all_predicates, predicates}
use Rattle.sql_bind.specs.Conjuncts.{Conjunct, bound_condition, joined_reach, reach_of, reach_of_all}
use Rattle.sql_bind.proofs.Chains.{bound-chain}
use Rattle.sql_bind.proofs.Faults.{handed_on}
use Rattle.sql_bind.proofs.Joined.{parts-next}
use Rattle.sql_bind.proofs.Tables.{items-next}
use Rattle.sql_bind.proofs.Walked.{leads-at, led, led-refused}
use Rattle.sql_bind.proofs.bound.+bound.Goals as goal

pub bound_chain-returns-in_err-bound-clause-refuses : goal.bound_chain-returns-in_err-bound-clause-refuses
bound_chain-returns-in_err-bound-clause-refuses t c =
    let tables = c.args.scope.now in
    let parts = c.args.parts.now in
    let part = c.index-parts-i.result in
    handed_on _ c.from_residual-in_err-bound.result c.in_err-bound.field-0.0 c.from_residual-in_err-bound.ensures.1
    (λ other. led-refused tables (all_predicates parts) (predicates (condition_tree part)) (all_predicates (drop (c.loop-i.i + 1) parts)) c.args.walk.now c.loop-i.walk _
    (leads-at tables parts c.loop-i.i part c.args.walk.now c.loop-i.walk c.loop-i-test.true c.index-parts-i.is c.loop-i.invariant.0) (c.in_err-bound.ensures.refuses.refused other))

pub bound_chain-loop-i-preserved : goal.bound_chain-loop-i-preserved
bound_chain-loop-i-preserved t c =
    let tables = c.args.scope.now in
    let parts = c.args.parts.now in
    let part = c.index-parts-i.result in
    let tree = condition_tree part in
    let left = drop (c.loop-i.i + 1) parts in
    let before = c.loop-i.conditions.items in
    let bound = c.in_ok-bound.bound in
    let tree_of : Cond → FilterTree = λ one. bound_condition tables (condition_tree one) in
    let is_tree : filter_tree bound.condition ≡ bound_condition tables tree = ap (λ (one : Conjunct). one.tree) c.in_ok-bound.ensures.bound in
    let is_reach : bound.reach ≡ reach_of tables tree = ap (λ (one : Conjunct). one.reach) c.in_ok-bound.ensures.bound in (
      led tables (all_predicates parts) (predicates tree) (all_predicates left) c.args.walk.now c.loop-i.walk _
          (leads-at tables parts c.loop-i.i part c.args.walk.now c.loop-i.walk c.loop-i-test.true c.index-parts-i.is c.loop-i.invariant.0)
          c.in_ok-bound.ensures.walks c.in_ok-bound.ensures.refuses.answered,
      ap (map filter_tree) c.in_ok-push.ensures.items ∙ map-append filter_tree before (bound.condition ∷ [])
          ∙ ap (λ some. some ++ filter_tree bound.condition ∷ []) c.loop-i.invariant.1
          ∙ ap (λ one. map tree_of (take c.loop-i.i parts) ++ one ∷ []) is_tree
          ∙ sym (items-next tree_of parts c.loop-i.i part c.loop-i-test.true c.index-parts-i.is),
      c.loop-i.invariant.2 ∙ parts-next tables parts c.loop-i.i part c.loop-i.reach c.loop-i-test.true c.index-parts-i.is
          ∙ ap (λ reach. joined_reach reach (reach_of_all tables (operands (map condition_tree left)))) (ap (joined_reach c.loop-i.reach) (sym is_reach) ∙ sym c.joined-reach.ensures),
    )

pub bound_chain-returns-clause-conditions : goal.bound_chain-returns-clause-conditions
bound_chain-returns-clause-conditions t c =
    let tables = c.args.scope.now in
    let parts = c.args.parts.now in
    let all : List Cond → List FilterTree = λ some. map (λ part. bound_condition tables (condition_tree part)) some in
    ap chain (c.loop-i.invariant.1 ∙ ap all (take_all c.loop-i.i parts c.loop-i-test.false)) ∙ bound-chain tables parts
