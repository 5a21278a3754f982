use Rattle.std.proofs.Common.{◌≡◌, take}
use Rattle.db_catalog.proofs.batch.Batch.put_row.Given as goal

abbrev pub invariant-loop-value : goal.invariant-loop-value
invariant-loop-value l = l.self ≡ record l.initial.self { row = take l.value-index l.row }
