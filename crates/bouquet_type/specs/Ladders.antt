-- The contours of a bouquet, climbed one after another from the cheapest on. They need not all be there: those ahead may still
-- have to be made.
use Rattle.std.specs.Prelude.{◌≡◌, Bool, true, false, ◌≤◌, All, List, [], ◌∷◌, length, Result, Ok, Err}
use Rattle.sql_values.specs.Limits.{max_points, max_threshold, max_contours, max_contour_cost}
use Rattle.query_block.specs.Blocks.{BlockTree}
use Rattle.plan_tree.specs.Enumerated.{IsPlan}
use Rattle.bouquet_type.specs.Trees.{BouquetTree, ContourTree}
use Rattle.bouquet_type.specs.Schedule.{final_of, final_plan}

-- the whole bouquet, the contour at hand, and those ahead. At the foot a contour without plans is at hand
pub record LadderState : Type 0 where
  pub whole : BouquetTree
  pub hand : ContourTree
  pub ahead : List ContourTree

-- a bouquet before the first of its contours
abbrev pub foot_of : BouquetTree → LadderState
foot_of bouquet = record { whole = bouquet; hand = record { cost = 0; plans = [] }; ahead = bouquet.contours }

-- plans of a block that are tried under one budget: there may be none
pub record AreTried (block : BlockTree) (contour : ContourTree) : Type 0 where
  pub cost : contour.cost ≤ max_contour_cost
  pub few : length contour.plans ≤ max_points
  pub plans : All (IsPlan block) contour.plans

-- what holds on each contour: the bouquet's plans are those of its block; there is a plan on each contour ahead; and the last
-- plan of those at hand and ahead is the bouquet's
pub record IsLadder (l : LadderState) : Type 0 where
  pub threshold : l.whole.threshold ≤ max_threshold
  pub plans : All (λ contour. All (IsPlan l.whole.costing.block) contour.plans) l.whole.contours
  pub tried : All (AreTried l.whole.costing.block) (l.hand ∷ l.ahead)
  pub some : All (λ contour. 1 ≤ length contour.plans) l.ahead
  pub few : length l.ahead ≤ max_contours
  pub last : l.ahead ≡ [] → 1 ≤ length l.hand.plans
  pub final : final_plan l.whole ≡ final_of (l.hand ∷ l.ahead)

-- it stands at the foot of its bouquet
pub record StandsAtFoot (l : LadderState) : Type 0 where
  pub ladder : IsLadder l
  pub foot : l ≡ foot_of l.whole

-- the next contour is at hand; or there is none, and nothing changed; nor did it where it couldn't be made
abbrev pub Climbs : {E : Type 0} → (old new : LadderState) → Result Bool E → Type 0
Climbs old new (Ok true) = (new.whole ≡ old.whole) × (old.ahead ≡ new.hand ∷ new.ahead)
Climbs old new (Ok false) = (old.ahead ≡ []) × (new ≡ old)
Climbs old new (Err e) = new ≡ old
