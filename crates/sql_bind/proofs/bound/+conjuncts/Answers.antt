use Rattle.std.proofs.Common.{◌+◌, drop}
use Rattle.sql_parse.specs.Trees.{condition_tree}
use Rattle.sql_bind.specs.Predicates.{all_predicates, predicates}
use Rattle.sql_bind.proofs.Bounds.{adds-next}
use Rattle.sql_bind.proofs.Faults.{handed_on}
use Rattle.sql_bind.proofs.Walked.{leads-at, led, led-refused}
use Rattle.sql_bind.proofs.bound.+conjuncts.Goals as goal

pub add_all-returns-in_err-add_conjuncts-clause-refuses : goal.add_all-returns-in_err-add_conjuncts-clause-refuses
add_all-returns-in_err-add_conjuncts-clause-refuses t c =
    let tables = c.args.scope.now in
    let parts = c.args.chain.now in
    let part = c.index-chain-i.result in
    handed_on _ c.from_residual.result c.in_err-add_conjuncts.field-0.0 c.from_residual.ensures.1
    (λ other. led-refused tables (all_predicates parts) (predicates (condition_tree part)) (all_predicates (drop (c.loop-i.i + 1) parts)) c.args.walk.now c.loop-i.walk _
    (leads-at tables parts c.loop-i.i part c.args.walk.now c.loop-i.walk c.loop-i-test.true c.index-chain-i.is c.loop-i.invariant.0) (c.in_err-add_conjuncts.ensures.refuses.refused other))

pub add_all-loop-i-preserved : goal.add_all-loop-i-preserved
add_all-loop-i-preserved t c =
    let tables = c.args.scope.now in
    let parts = c.args.chain.now in
    let part = c.index-chain-i.result in (
      led tables (all_predicates parts) (predicates (condition_tree part)) (all_predicates (drop (c.loop-i.i + 1) parts)) c.args.walk.now c.loop-i.walk _
          (leads-at tables parts c.loop-i.i part c.args.walk.now c.loop-i.walk c.loop-i-test.true c.index-chain-i.is c.loop-i.invariant.0)
          c.in_ok-add_conjuncts.ensures.walks c.in_ok-add_conjuncts.ensures.refuses.answered,
      adds-next tables parts c.loop-i.i part c.args.bound.now.items c.loop-i.bound.items _ c.loop-i-test.true c.index-chain-i.is c.loop-i.invariant.1 c.in_ok-add_conjuncts.ensures.added,
    )
