use Rattle.std.proofs.Common.{◌≡◌, length, take}
use Rattle.sql_values.specs.Limits.{max_axes}
use Rattle.session.proofs.audit.point_of.Given as goal

abbrev pub invariant-loop-axis : goal.invariant-loop-axis
invariant-loop-axis l = (length l.point ≡ max_axes) × (take l.axis l.point ≡ take l.axis l.levels)
