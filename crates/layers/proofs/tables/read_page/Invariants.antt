use Rattle.std.proofs.Common.{◌≡◌}
use Rattle.layers.proofs.tables.read_page.Given as goal

abbrev pub invariant-loop-slot : goal.invariant-loop-slot
invariant-loop-slot l = l.meter.database ≡ l.fn.meter.database
