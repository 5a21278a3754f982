use Rattle.sql_values.proofs.ValueOrder.{total, same}
use Rattle.sql_values.proofs.value_order.order_is_total.Goals as goal

pub returns-clause-total : goal.returns-clause-total
returns-clause-total c = total

pub returns-clause-same : goal.returns-clause-same
returns-clause-same c = same
