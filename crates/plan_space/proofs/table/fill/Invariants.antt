use Rattle.std.proofs.Common.{◌^◌}
use Rattle.plan_space.specs.Table.{AreLeast}
use Rattle.cost_model.specs.Prices.{own_at, block_at}
use Rattle.plan_space.proofs.table.fill.Given as goal

abbrev pub invariant-loop-relation : goal.invariant-loop-relation
invariant-loop-relation l = AreLeast (own_at l.fn.prices) (block_at l.fn.prices) l.table (2 ^ l.relation)
