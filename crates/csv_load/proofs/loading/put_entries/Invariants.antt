use Rattle.std.proofs.Common.{◌≡◌, ◌+◌, [], ◌++◌, map, length}
use Rattle.csv_load.specs.Entries.{records_left, GivesEntries}
use Rattle.csv_load.specs.Load.{entries_fault, entry_row}
use Rattle.csv_load.proofs.Rows.{entries_fault_from}
use Rattle.csv_load.proofs.loading.put_entries.Given as goal

abbrev pub invariant-loop-n : goal.invariant-loop-n
invariant-loop-n g l = record {
  goes_on : GivesEntries g.R.Read.remaining l.reader;
  columns : l.batch.columns ≡ l.columns;
  whole : l.batch.row ≡ [];
  rows : l.batch.rows ++ map (entry_row l.columns) (records_left g.R.Read.remaining l.reader) ≡ map (entry_row l.columns) (records_left g.R.Read.remaining l.initial.reader);
  good : entries_fault l.columns (records_left g.R.Read.remaining l.initial.reader) ≡ entries_fault_from l.n l.columns (records_left g.R.Read.remaining l.reader);
  count : l.n + length (records_left g.R.Read.remaining l.reader) ≡ 1 + length (records_left g.R.Read.remaining l.initial.reader);
}
