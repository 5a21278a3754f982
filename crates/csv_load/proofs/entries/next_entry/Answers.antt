use Rattle.csv.specs.Records.{fields_of}
use Rattle.csv_load.proofs.EntryReads.{entries_left-read, flexible-stops}
use Rattle.csv_load.proofs.entries.next_entry.Goals as goal

pub want_of_memory-requires : goal.want_of_memory-requires
want_of_memory-requires g c =
    flexible-stops g.R.Read.remaining c.args.reader.now c.read_byte_record.new.self _ c.requires.flexible (c.in-Err.ensures.why c.requires.ready)

pub returns-in-Ok-clause-entry : goal.returns-in-Ok-clause-entry
returns-in-Ok-clause-entry g c =
    let read = c.in-Ok.ensures in
    (entries_left-read g.R.Read.remaining c.args.reader.now c.read_byte_record.new.self _ (fields_of c.read_byte_record.new.row) c.requires (read.reads c.requires.untrimmed c.requires.ready) (read.ready c.requires.untrimmed) read.flexible).1
