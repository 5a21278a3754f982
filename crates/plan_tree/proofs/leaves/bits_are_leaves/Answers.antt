use Rattle.plan_tree.proofs.Sets.{bits-are-leaves}
use Rattle.plan_tree.proofs.leaves.bits_are_leaves.Goals as goal

pub returns : goal.returns
returns c = bits-are-leaves
