use Rattle.std.proofs.Common.{◌≡◌, drop, fold}
use Rattle.sql_bind.specs.declared.names.NamedColumns.TheVariants.{Nothing}
use Rattle.sql_bind.specs.Names.{places_from}
use Rattle.sql_bind.specs.Refused.{added}
use Rattle.sql_bind.proofs.names.look_up.Given as goal

abbrev pub invariant-loop-number : goal.invariant-loop-number
invariant-loop-number l =
    fold added Nothing (places_from 0 l.scope l.written) ≡ fold added l.found (places_from l.number (drop l.number l.scope) l.written)
