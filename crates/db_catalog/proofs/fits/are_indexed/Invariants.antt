use Rattle.std.proofs.Common.{All, Contains, take}
use Rattle.db_catalog.proofs.fits.are_indexed.Given as goal

abbrev pub invariant-loop-column : goal.invariant-loop-column
invariant-loop-column l = All (λ column. Contains l.indexed column) (take l.column-index l.columns)
