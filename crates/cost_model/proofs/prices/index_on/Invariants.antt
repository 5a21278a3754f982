use Rattle.std.proofs.Common.{◌≡◌, drop}
use Rattle.cost_model.specs.Costs.{index_on}
use Rattle.cost_model.proofs.prices.index_on.Given as goal

abbrev pub invariant-loop-index : goal.invariant-loop-index
invariant-loop-index l = index_on l.columns l.column ≡ index_on (drop l.index-index l.columns) l.column
