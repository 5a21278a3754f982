use Rattle.std.proofs.Common.{◌≡◌}
use Rattle.csv.specs.Records.{fields_of}
use Rattle.csv_load.specs.Header.{names_of, agreeing}
use Rattle.csv_load.proofs.Headers.{agreeing_from}
use Rattle.csv_load.proofs.header.agreeing.Given as goal

abbrev pub invariant-loop-i : goal.invariant-loop-i
invariant-loop-i l = agreeing (names_of l.columns) (fields_of l.entry) ≡ agreeing_from l.columns (fields_of l.entry) l.i
