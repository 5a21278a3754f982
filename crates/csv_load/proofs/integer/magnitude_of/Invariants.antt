use Rattle.std.proofs.Common.{◌≡◌, ◌<◌, ◌≤◌, drop}
use Rattle.std.specs.Str.{all_ascii_digits}
use Rattle.std.specs.Str.Parse.{digits_value, digits_value_after}
use Rattle.csv_load.specs.Field.{greatest_integer}
use Rattle.csv_load.proofs.integer.magnitude_of.Given as goal

abbrev pub invariant-loop-digit : goal.invariant-loop-digit
invariant-loop-digit l = record {
  digits : all_ascii_digits l.digits ≡ all_ascii_digits (drop l.digit-index l.digits);
  number : l.value ≤ greatest_integer → digits_value 10 l.digits ≡ digits_value_after 10 l.value (drop l.digit-index l.digits);
  past : greatest_integer < l.value → greatest_integer < digits_value 10 l.digits;
}
