use Rattle.std.proofs.Common.{map}
use Rattle.sql_bind.specs.Conjuncts.{bound_tree}
use Rattle.sql_bind.specs.Collected.{HasParts}
use Rattle.sql_bind.proofs.conjuncts.parts_of.Given as goal

abbrev pub invariant-loop-conjunct : goal.invariant-loop-conjunct
invariant-loop-conjunct l = HasParts l.relations (map bound_tree l.yielded) l.parts
