use Rattle.std.proofs.Common.{ℕ, ◌+◌, ◌-◌, ◌*◌, map}
use Rattle.sql_parse.specs.declared.condition.Connective.{Connective}
use Rattle.sql_parse.specs.declared.condition.Connective.TheVariants.{And, Or}
use Rattle.sql_parse.specs.Trees.{condition_tree}
use Rattle.sql_parse.specs.Reading.{separator_of, part_at, group_at}
use Rattle.sql_parse.proofs.Lists.{IsReadSoFar}
use Rattle.sql_parse.proofs.condition.+condition.Given as goal

-- a chain of OR has chains of AND as its parts
abbrev rank : Connective → ℕ
rank And = 3
rank Or = 6

abbrev pub decreases-chain : goal.decreases-chain
decreases-chain l = 9 * l.nesting + (rank l.connective + 2)

abbrev pub decreases-part : goal.decreases-part
decreases-part l = 9 * l.nesting + rank l.connective

abbrev pub decreases-factor : goal.decreases-factor
decreases-factor l = 9 * l.nesting + 2

abbrev pub decreases-plain_factor : goal.decreases-plain_factor
decreases-plain_factor l = 9 * l.nesting + 1

abbrev pub decreases-group : goal.decreases-group
decreases-group l = 9 * l.nesting

abbrev pub decreases-parts : goal.decreases-parts
decreases-parts l = 9 * l.nesting + (rank l.connective + 1)

abbrev pub invariant-parts-loop-turn : goal.invariant-parts-loop-turn
invariant-parts-loop-turn l =
    IsReadSoFar (condition_tree l.fn.first) (part_at l.connective (group_at l.nesting)) (separator_of l.connective) l.fn.piece
    (map condition_tree l.parts.items) (l._turn-end - l._turn) l.rest
