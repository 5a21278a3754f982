use Rattle.std.proofs.Common.{◌≡◌, ◌++◌, drop}
use Rattle.sql_bind.specs.Binding.{every_column}
use Rattle.sql_bind.proofs.projection.every_column.Given as goal

abbrev pub invariant-loop-i : goal.invariant-loop-i
invariant-loop-i l = every_column 0 l.scope ≡ l.places.items ++ every_column l.i (drop l.i l.scope)
