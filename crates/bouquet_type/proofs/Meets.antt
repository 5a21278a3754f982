-- Every bouquet meets the bound.
use Rattle.std.proofs.Common.{ℕ}
use Rattle.std.specs.Prelude.{All}
use Rattle.std.proofs.lemmas.List.Elements.{All-map, All-weaker}
use Rattle.plan_tree.specs.Plans.{PlanTree, plan_tree}
use Rattle.plan_tree.specs.Enumerated.{IsPlan}
use Rattle.bouquet_type.specs.declared.contour.Contour.{Contour}
use Rattle.bouquet_type.specs.Shapes.{BouquetShape}
use Rattle.bouquet_type.specs.Trees.{IsBouquet, IsContour, ContourTree, bouquet_tree, contour_tree}
use Rattle.bouquet_type.specs.Runs.{total_work}
use Rattle.bouquet_type.specs.Bounded.{MeetsBound}
use Rattle.bouquet_type.proofs.Bound.{bound}

pub plans-of-bouquet : (b : BouquetShape) → IsBouquet b
    → All (λ contour. All (IsPlan (bouquet_tree b).costing.block) contour.plans) (bouquet_tree b).contours
plans-of-bouquet b is =
    let block = (bouquet_tree b).costing.block in
    let HasPlans = λ (contour : ContourTree). All (IsPlan block) contour.plans in
    All-map HasPlans contour_tree b.contours (
    All-weaker (IsContour block) (λ contour. HasPlans (contour_tree contour)) (
    λ (contour : Contour) (here : IsContour block contour). All-map (IsPlan block) plan_tree contour.plans.items here.plans
    ) b.contours is.contours
    )

pub bouquet-bound : (b : BouquetShape) → IsBouquet b → (work : PlanTree → ℕ)
    → MeetsBound (bouquet_tree b) work (total_work (bouquet_tree b) work)
bouquet-bound b is work = bound (bouquet_tree b) work (plans-of-bouquet b is)
