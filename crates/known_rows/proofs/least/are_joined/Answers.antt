use Rattle.std.proofs.Common.{ap, ◌∙◌}
use Rattle.plan_tree.specs.Plans.{plan_tree}
use Rattle.plan_tree.specs.Sets.{set_of}
use Rattle.plan_tree.proofs.LeafSets.{set-of-plan}
use Rattle.known_rows.specs.LeastWork.{are_joined}
use Rattle.known_rows.proofs.least.are_joined.Goals as goal

pub returns : goal.returns
returns c =
    let left = ap set_of c.relations_of.ensures ∙ set-of-plan (plan_tree c.args.left.now) in
    let right = ap set_of c.relations_of-2.ensures ∙ set-of-plan (plan_tree c.args.right.now) in
    c.are_sets_joined.ensures ∙ λ i. are_joined c.args.block.now.edges (left i) (right i)
