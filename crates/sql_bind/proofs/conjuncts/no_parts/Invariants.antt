use Rattle.std.proofs.Common.{◌≡◌, [], replicate}
use Rattle.sql_bind.specs.Collected.{filter_trees}
use Rattle.sql_bind.proofs.conjuncts.no_parts.Given as goal

abbrev pub invariant-loop-relation : goal.invariant-loop-relation
invariant-loop-relation l = filter_trees l.filters.items ≡ replicate l._relation []
