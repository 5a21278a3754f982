use Rattle.std.proofs.Common.{ap, arith, length}
use Rattle.sql_parse.specs.Trees.{condition_tree}
use Rattle.sql_bind.specs.Conjuncts.{conjuncts}
use Rattle.sql_bind.proofs.Bounds.{adds-count}
use Rattle.sql_bind.proofs.Counts.{conjuncts-few, predicates-count}
use Rattle.sql_bind.proofs.binding.asked_by.Goals as goal

pub add_conjuncts-requires : goal.add_conjuncts-requires
add_conjuncts-requires c = omega (arith, predicates-count (condition_tree c.args.condition.now), c.requires.counted)

pub check_forms-requires : goal.check_forms-requires
check_forms-requires c =
    let tree = condition_tree c.args.condition.now in
    let added = adds-count c.args.scope.now (conjuncts tree) c.new-conjuncts.result.items c.add_conjuncts.new.bound.items c.in_ok-add_conjuncts.ensures.added in
    omega (arith, ap length c.as_slice.ensures.value, added, ap length c.new-conjuncts.ensures.items, conjuncts-few tree c.requires.well_formed, c.requires.counted)
