-- The frontiers of contours, collected as these are made.
use Rattle.std.proofs.Common.{◌≡◌, ◌∙◌, ℕ, List, [], ◌∷◌, ◌++◌, map, ap, ap₂, sym}
use Rattle.std.specs.Prelude.{Vec}
use Rattle.std.specs.declared.alloc.Global.{Global}
use Rattle.std.proofs.lemmas.List.{map_push}
use Rattle.cost_model.specs.Costing.{CostingTree}
use Rattle.cost_model.specs.Frontier.{frontier}
use Rattle.plan_space.specs.SurfacePoints.{surface_points}
use Rattle.bouquet_type.specs.declared.contour.Contour.{Contour}
use Rattle.bouquet_type.specs.Trees.{BouquetTree, ContourTree, contour_tree}
use Rattle.bouquet_type.specs.Compiled.{compiled}
use Rattle.contours.specs.declared.maker.Found.{Found}
use Rattle.contours.specs.Lazy.{MakerState, whole_of}

-- the points are those of the frontiers of these contours
abbrev pub AreOutlined : CostingTree → List (Vec (List ℕ) Global) → List Contour → Type 0
AreOutlined costing frontiers contours =
    map (λ (points : Vec (List ℕ) Global). points.items) frontiers ≡ map (λ (contour : ContourTree). frontier costing contour.cost) (map contour_tree contours)

pub outlined-more : (costing : CostingTree) (threshold : ℕ) (frontiers : List (Vec (List ℕ) Global)) (contours : List Contour) (points : Vec (List ℕ) Global) (found : Found) (old : MakerState)
    → whole_of old ≡ compiled costing threshold → surface_points found.points.items ≡ frontier (whole_of old).costing found.contour.cost → points.items ≡ surface_points found.points.items → AreOutlined costing frontiers contours
    → AreOutlined costing (frontiers ++ points ∷ []) (contours ++ found.contour ∷ [])
unfolding compiled
outlined-more costing threshold frontiers contours points found old whole makes are before =
    let items : Vec (List ℕ) Global → List (List ℕ) = λ points. points.items in
    let front : ContourTree → List (List ℕ) = λ contour. frontier costing contour.cost in
    let here : points.items ≡ frontier costing found.contour.cost =
    are ∙ makes ∙ ap (λ (b : BouquetTree). frontier b.costing found.contour.cost) whole in
    map_push items frontiers points
    ∙ ap₂ (λ (all : List (List (List ℕ))) (one : List (List ℕ)). all ++ one ∷ []) before here
    ∙ sym (ap (map front) (map_push contour_tree contours found.contour) ∙ map_push front (map contour_tree contours) (contour_tree found.contour))
