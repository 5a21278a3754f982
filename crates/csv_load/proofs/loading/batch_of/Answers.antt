use Rattle.std.proofs.Common.{length, ap, arith}
use Rattle.csv_load.proofs.EntryReads.{length-entries_of}
use Rattle.csv_load.proofs.loading.batch_of.Goals as goal

pub read_batch-requires-clause-short : goal.read_batch-requires-clause-short
read_batch-requires-clause-short c = omega (arith, ap length c.reader_of-reader.ensures.entries, length-entries_of c.args.bytes.now)
