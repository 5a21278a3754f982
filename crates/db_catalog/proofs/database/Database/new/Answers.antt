use Rattle.std.proofs.Common.{ap, map}
use Rattle.db_catalog.specs.Kept.{stored_table}
use Rattle.db_catalog.proofs.Tables.{nothing_kept}
use Rattle.db_catalog.proofs.database.Database.new.Goals as goal

pub invariant_of-result : goal.invariant_of-result
invariant_of-result c = rw (c.new.ensures, c.new-2.ensures.items, c.new-3.ensures) nothing_kept

pub returns : goal.returns
returns c = λ i. record {
  tables = ap (map (stored_table c.new-3.result)) c.new-2.ensures.items i;
  texts = c.new-3.ensures i;
  index_names = c.new-4.ensures i;
}
