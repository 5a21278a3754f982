use Rattle.std.proofs.Common.{◌≡◌}
use Rattle.layers.proofs.tables.read_table.Given as goal

abbrev pub invariant-loop-no : goal.invariant-loop-no
invariant-loop-no l = l.meter.database ≡ l.fn.meter.database
