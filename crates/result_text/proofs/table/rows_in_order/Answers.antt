use Rattle.result_text.proofs.RowsInOrder.{IsPermutation-in_order, IsSorted-in_order}
use Rattle.result_text.proofs.table.rows_in_order.Goals as goal

pub returns-clause-permutation : goal.returns-clause-permutation
returns-clause-permutation c = IsPermutation-in_order

pub returns-clause-ascending : goal.returns-clause-ascending
returns-clause-ascending c = IsSorted-in_order
