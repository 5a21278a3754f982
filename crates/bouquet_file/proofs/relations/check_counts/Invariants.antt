use Rattle.std.proofs.Common.{◌≡◌, drop}
use Rattle.bouquet_file.specs.Checks.{changed_counts}
use Rattle.bouquet_file.proofs.relations.check_counts.Given as goal

abbrev pub invariant-loop-number : goal.invariant-loop-number
invariant-loop-number l = changed_counts 0 l.counts l.present ≡ changed_counts l.number (drop l.number l.counts) (drop l.number l.present)
