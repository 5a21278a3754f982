use Rattle.std.proofs.Common.{◌+◌, ◌*◌}
use Rattle.plan_tree.proofs.read.+plan.Given as goal

abbrev pub decreases-plan_at : goal.decreases-plan_at
decreases-plan_at l = 5 * l.levels

abbrev pub decreases-side : goal.decreases-side
decreases-side l = 5 * l.levels + 1

abbrev pub decreases-sides : goal.decreases-sides
decreases-sides l = 5 * l.levels + 2

abbrev pub decreases-nest : goal.decreases-nest
decreases-nest l = 5 * l.levels + 3

abbrev pub decreases-hash : goal.decreases-hash
decreases-hash l = 5 * l.levels + 3

abbrev pub decreases-merge : goal.decreases-merge
decreases-merge l = 5 * l.levels + 3

abbrev pub decreases-index_loop : goal.decreases-index_loop
decreases-index_loop l = 5 * l.levels + 3

abbrev pub decreases-node_of : goal.decreases-node_of
decreases-node_of l = 5 * l.levels + 4
