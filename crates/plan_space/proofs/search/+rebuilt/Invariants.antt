use Rattle.std.proofs.Common.{◌+◌, ◌*◌}
use Rattle.plan_space.proofs.search.+rebuilt.Given as goal

abbrev pub decreases-boxed : goal.decreases-boxed
decreases-boxed l = 2 * l.set + 1

abbrev pub decreases-rebuilt : goal.decreases-rebuilt
decreases-rebuilt l = 2 * l.set
