use Rattle.std.proofs.Common.{ℕ, ◌<◌, IsTrue}
use Rattle.plan_tree.specs.Plans.{plan_tree, has_leaf}
use Rattle.plan_tree.proofs.rules.joins_all.Given as goal

abbrev pub invariant-loop-relation : goal.invariant-loop-relation
invariant-loop-relation l = (relation : ℕ) → relation < l.relation → IsTrue (has_leaf (plan_tree l.p) relation)
