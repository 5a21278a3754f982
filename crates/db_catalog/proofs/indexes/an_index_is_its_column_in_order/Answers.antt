use Rattle.db_catalog.specs.Indexes.{column_entries}
use Rattle.btree_index.proofs.EntryOrder.{ordered_same, ordered_in_order}
use Rattle.db_catalog.proofs.indexes.an_index_is_its_column_in_order.Goals as goal

pub returns-clause-same : goal.returns-clause-same
returns-clause-same c database number column = ordered_same (column_entries database number column)

pub returns-clause-order : goal.returns-clause-order
returns-clause-order c database number column = ordered_in_order (column_entries database number column)
