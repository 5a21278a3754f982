use Rattle.std.proofs.Common.{◌≡◌, ◌+◌, drop}
use Rattle.query_block.specs.Values.{misfit_from}
use Rattle.query_block.proofs.values.fits_kinds.Given as goal

abbrev pub invariant-loop-place : goal.invariant-loop-place
invariant-loop-place l = misfit_from 1 l.kinds l.values ≡ misfit_from (l.place + 1) (drop l.place l.kinds) (drop l.place l.values)
