use Rattle.std.proofs.Common.{◌≡◌, ◌-◌, ◌^◌, min, take}
use Rattle.sql_lex.specs.Values.{number_value_of}
use Rattle.sql_lex.proofs.value.capped_number.Given as goal

abbrev pub invariant-loop-digit : goal.invariant-loop-digit
invariant-loop-digit l = l.value ≡ min (number_value_of (take l.digit-index l.digits)) (2 ^ 64 - 1)
