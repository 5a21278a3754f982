use Rattle.std.proofs.Common.{◌≡◌, ◌+◌, length}
use Rattle.plan_space.specs.Table.{AreLeast}
use Rattle.cost_model.specs.Prices.{own_at, block_at}
use Rattle.plan_space.proofs.table.Filling.add_relation.Given as goal

abbrev pub invariant-loop-rest : goal.invariant-loop-rest
invariant-loop-rest l = AreLeast (own_at l.self) (block_at l.self) l.table (l.alone + l.rest) × (length l.table ≡ 64)
