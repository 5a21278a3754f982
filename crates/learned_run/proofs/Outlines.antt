-- The frontiers that a bouquet keeps.
use Rattle.std.proofs.Common.{◌≡◌, ◌∙◌, ℕ, ◌-◌, ◌<◌, ◌≤◌, List, [], ◌∷◌, get_or, length, map, refl, ap, sym, arith}
use Rattle.std.specs.Prelude.{All, Vec}
use Rattle.std.specs.declared.alloc.Global.{Global}
use Rattle.std.proofs.lemmas.List.{length-map, get_or-map}
use Rattle.std.proofs.lemmas.List.Elements.{All-filter}
use Rattle.ess_grid.specs.Points.{IsGrid, IsPoint, points_of}
use Rattle.ess_grid.proofs.GridPoints.{All-points_of}
use Rattle.cost_model.specs.Costing.{CostingTree}
use Rattle.cost_model.specs.Frontier.{frontier, is_on_frontier}
use Rattle.bouquet_type.specs.declared.contour.Contour.{Contour}
use Rattle.bouquet_type.specs.declared.outline.Outline.{Outline}
use Rattle.bouquet_type.specs.Shapes.{BouquetShape, cost_on}
use Rattle.bouquet_type.specs.Trees.{ContourTree, IsOutline, bouquet_tree, contour_tree}

-- what is made of the costs of contours
pub by-costs : {X : Type 0} (f : ℕ → X) (contours : List Contour) → map (λ (contour : ContourTree). f contour.cost) (map contour_tree contours) ≡ map f (map (λ (contour : Contour). contour.cost) contours)
by-costs f [] = refl
by-costs f (contour ∷ more) = ap (λ xs. f contour.cost ∷ xs) (by-costs f more)

-- the points that are kept for a contour are those of its frontier
pub outlined-points : (b seen : BouquetShape) (outline : Outline) (number : ℕ) (held : Vec (List ℕ) Global) (points : List (List ℕ)) → b ≡ seen → IsOutline (bouquet_tree b) outline
    → 1 ≤ number → number ≤ length seen.contours → held ≡ get_or outline.frontiers.items (number - 1) held → points ≡ held.items
    → points ≡ frontier (bouquet_tree b).costing (cost_on b number)
outlined-points b seen outline number held points view is some there at are =
    let place = number - 1 in
    let frontiers = outline.frontiers.items in
    let items : Vec (List ℕ) Global → List (List ℕ) = λ points. points.items in
    let front : ℕ → List (List ℕ) = frontier (bouquet_tree b).costing in
    let costs = map (λ (contour : Contour). contour.cost) b.contours in
    let same : map items frontiers ≡ map front costs = is.frontiers ∙ by-costs front b.contours in
    let inside : place < length costs =
    omega (arith, some, there, ap (λ (b : BouquetShape). length b.contours) view, length-map b.contours (λ (contour : Contour). contour.cost)) in
    let kept : place < length frontiers = omega (arith, inside, length-map frontiers items, ap length same, length-map costs front) in
    are
    ∙ ap items at
    ∙ sym (get_or-map items frontiers place held held.items kept)
    ∙ ap (λ points. get_or points place held.items) same
    ∙ get_or-map front costs place 0 held.items inside

-- they are points of the grid
pub frontier-points : (costing : CostingTree) (cost : ℕ) → IsGrid costing.grid → All (IsPoint costing.grid) (frontier costing cost)
unfolding frontier
frontier-points costing cost grid = All-filter (is_on_frontier costing cost) (IsPoint costing.grid) (points_of costing.grid) (All-points_of costing.grid grid)
