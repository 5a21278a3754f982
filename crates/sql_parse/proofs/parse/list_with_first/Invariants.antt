use Rattle.std.proofs.Common.{◌-◌}
use Rattle.sql_parse.specs.declared.mark.Mark.TheVariants.{Comma}
use Rattle.sql_parse.proofs.Lists.{IsReadSoFar}
use Rattle.sql_parse.proofs.parse.list_with_first.Given as goal

abbrev pub invariant-loop-turn : goal.invariant-loop-turn
invariant-loop-turn g l = IsReadSoFar l.fn.first g.T.Parse.reads Comma l.fn.piece l.items.items (l._turn-end - l._turn) l.rest
