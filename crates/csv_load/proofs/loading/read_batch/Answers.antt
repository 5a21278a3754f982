use Rattle.std.proofs.Common.{◌≡◌, length, ap, rules, true, arith}
use Rattle.csv_load.proofs.loading.read_batch.Goals as goal

pub put_entries-requires-clause-short : goal.put_entries-requires-clause-short
put_entries-requires-clause-short g c =
    let found : c.in_ok-next_entry.field-0 ≡ true = search rules in
    omega (arith, ap length (rw found at c.in_ok-next_entry.ensures.entry))
