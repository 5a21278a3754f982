use Rattle.std.proofs.Common.{◌≡◌, drop, fold}
use Rattle.sql_bind.specs.Names.{places_among}
use Rattle.sql_bind.specs.Refused.{added}
use Rattle.sql_bind.proofs.names.found_among.Given as goal

abbrev pub invariant-loop-number : goal.invariant-loop-number
invariant-loop-number l =
    fold added l.fn.found (places_among l.relation 0 l.columns l.name)
    ≡ fold added l.found (places_among l.relation l.number (drop l.number l.columns) l.name)
