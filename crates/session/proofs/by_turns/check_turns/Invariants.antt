use Rattle.std.proofs.Common.{◌≡◌, drop}
use Rattle.session.specs.Turns.{turn_refusal}
use Rattle.session.proofs.by_turns.check_turns.Given as goal

abbrev pub invariant-loop-number : goal.invariant-loop-number
invariant-loop-number l = turn_refusal l.count (drop l.number-index l.by) ≡ turn_refusal l.count l.by
