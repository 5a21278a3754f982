use Rattle.std.proofs.Common.{◌≡◌, ◌++◌, take}
use Rattle.std.specs.List.{flat_map}
use Rattle.session.specs.Printed.{turn_line}
use Rattle.session.specs.Uses.{bouquets_of}
use Rattle.session.proofs.turn_lines.push_turns.Given as goal

abbrev pub invariant-loop-turn : goal.invariant-loop-turn
invariant-loop-turn l = l.text.items ≡ l.initial.text.items ++ flat_map (turn_line (bouquets_of l.all)) (take l.turn-index l.turns)
