use Rattle.std.proofs.Common.{◌∙◌, [], ap, arith}
use Rattle.sql_values.specs.Stored.{row_of}
use Rattle.sql_values.proofs.Stored.{row_of-nil}
use Rattle.db_catalog.proofs.BatchParts.{no_batch}
use Rattle.db_catalog.proofs.batch.Batch.new.Goals as goal

pub invariant_of-result : goal.invariant_of-result
invariant_of-result c =
    rw (c.in_ok-columns.ensures, c.new.ensures, c.new-2.ensures.items, c.in_ok-row.ensures.items) (no_batch c.args.columns.now _ c.requires (omega (arith, c.in_ok-row.ensures.exact)))

pub returns : goal.returns
returns c =
    let row = ap (row_of c.new.result c.in_ok-columns.columns.items) c.in_ok-row.ensures.items ∙ row_of-nil _ _ in
    λ i. record { columns = c.in_ok-columns.ensures i; rows = []; row = row i }
