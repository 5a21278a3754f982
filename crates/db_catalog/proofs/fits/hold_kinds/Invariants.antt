use Rattle.std.proofs.Common.{◌≡◌, map, take}
use Rattle.db_catalog.proofs.fits.hold_kinds.Given as goal

abbrev pub invariant-loop-i : goal.invariant-loop-i
invariant-loop-i l = take l.i l.kinds ≡ map (λ column. column.kind) (take l.i l.columns)
