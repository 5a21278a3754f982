-- A bouquet that holds all its contours, climbed from one to the next.
use Rattle.std.specs.Prelude.{ℕ, List, map}
use Rattle.plan_tree.specs.declared.plan.Plan.{Plan}
use Rattle.plan_tree.specs.Plans.{plan_tree}
use Rattle.bouquet_type.specs.declared.contour.Contour.{Contour}
use Rattle.bouquet_type.specs.Shapes.{BouquetShape}
use Rattle.bouquet_type.specs.Trees.{bouquet_tree, contour_tree}
use Rattle.bouquet_type.specs.Ladders.{LadderState}

-- the contours ahead, and of the one at hand the plans and the cost
pub record KeptState : Type 0 where
  pub bouquet : BouquetShape
  pub ahead : List Contour
  pub plans : List Plan
  pub cost : ℕ

abbrev pub ladder_of : KeptState → LadderState
ladder_of k = record {
  whole = bouquet_tree k.bouquet;
  hand = record { cost = k.cost; plans = map plan_tree k.plans };
  ahead = map contour_tree k.ahead;
}
