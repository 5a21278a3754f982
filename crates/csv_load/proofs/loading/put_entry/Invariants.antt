use Rattle.std.proofs.Common.{◌≡◌, ◌+◌, ◌++◌, length, drop}
use Rattle.csv.specs.Records.{fields_of}
use Rattle.csv_load.specs.Load.{entry_fault, entry_row}
use Rattle.csv_load.proofs.Rows.{fields_fault_from}
use Rattle.csv_load.proofs.loading.put_entry.Given as goal

abbrev pub invariant-loop-i : goal.invariant-loop-i
invariant-loop-i l = record {
  columns : l.batch.columns ≡ l.columns;
  rows : l.batch.rows ≡ l.initial.batch.rows;
  place : length l.batch.row ≡ l.i;
  row : l.batch.row ++ entry_row (drop l.i l.columns) (drop l.i (fields_of l.entry)) ≡ entry_row l.columns (fields_of l.entry);
  good : entry_fault l.columns l.n (fields_of l.entry) ≡ fields_fault_from (l.i + 1) l.n (drop l.i l.columns) (drop l.i (fields_of l.entry));
}
