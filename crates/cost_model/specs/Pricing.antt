-- At which point of which costing nodes have their prices.
use Rattle.std.specs.Prelude.{ℕ, List}
use Rattle.cost_model.specs.Costing.{CostingShape}

pub record Pricing : Type 0 where
  pub costing : CostingShape
  pub point : List ℕ
