use Rattle.std.proofs.Common.{◌≤◌, length}
use Rattle.plan_space.specs.PartSums.{ArePartSums}
use Rattle.plan_space.proofs.parts.Parts.sums.Given as goal

abbrev pub invariant-loop-number : goal.invariant-loop-number
invariant-loop-number l = record { some : 1 ≤ length l.latest.items; sums : ArePartSums l.self l.sums.nodes.items l.sums.parts.items l.number }
