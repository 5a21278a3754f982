use Rattle.std.proofs.Common.{arith}
use Rattle.plan_tree.proofs.range.by_bounds.Goals as goal

pub returns : goal.returns
returns c = λ kind low high v stored. grind (arith, c.by_literal.ensures kind high v stored, c.by_literal-above.ensures kind low v stored)
