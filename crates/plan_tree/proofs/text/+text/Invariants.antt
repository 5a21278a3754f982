use Rattle.std.proofs.Common.{◌+◌, ◌*◌, max}
use Rattle.plan_tree.proofs.plan.Plan.TheLaws.{the_size}
use Rattle.plan_tree.proofs.text.+text.Given as goal

abbrev pub decreases-put_plan : goal.decreases-put_plan
decreases-put_plan l = 3 * the_size l.p.now

abbrev pub decreases-put_sides : goal.decreases-put_sides
decreases-put_sides l = 3 * max (the_size l.left.now) (the_size l.right.now) + 1

abbrev pub decreases-put_nest : goal.decreases-put_nest
decreases-put_nest l = 3 * max (the_size l.left.now) (the_size l.right.now) + 2

abbrev pub decreases-put_join : goal.decreases-put_join
decreases-put_join l = 3 * max (the_size l.left.now) (the_size l.right.now) + 2

abbrev pub decreases-put_index_loop : goal.decreases-put_index_loop
decreases-put_index_loop l = 3 * the_size l.left.now + 2
