use Rattle.std.proofs.Common.{◌≡◌, ◌≢◌, ◌∷◌, Some, ap, ◌∙◌, rules, true}
use Rattle.csv.specs.Records.{fields_of}
use Rattle.csv_load.specs.declared.fault.LoadFault.TheVariants.{NoMemory}
use Rattle.csv_load.specs.Entries.{records_left}
use Rattle.csv_load.specs.Load.{entries_fault}
use Rattle.csv_load.proofs.Rows.{entries_fault_from, entries_fault_from-bad}
use Rattle.csv_load.proofs.loading.put_entries.Goals as goal

pub returns-in_err-put_entry-clause-fault : goal.returns-in_err-put_entry-clause-fault
returns-in_err-put_entry-clause-fault g c =
    let due = c.in_err-put_entry.ensures.fault.refused in
    let found : c.in_ok-next_entry.field-0 ≡ true = search rules in
    let left : records_left g.R.Read.remaining c.loop-n.reader ≡ fields_of c.next_entry.new.entry ∷ records_left g.R.Read.remaining c.next_entry.new.reader =
    rw found at c.in_ok-next_entry.ensures.entry in
    let bad : c.in_err-put_entry.field-0.0 ≢ NoMemory → entries_fault c.args.columns.now (records_left g.R.Read.remaining c.args.reader.now) ≡ Some c.in_err-put_entry.field-0.0 =
    λ other. c.loop-n.invariant.good ∙ ap (entries_fault_from c.loop-n.n c.args.columns.now) left
    ∙ entries_fault_from-bad c.loop-n.n c.args.columns.now _ _ c.in_err-put_entry.field-0.0 (due other) in
    search rules
