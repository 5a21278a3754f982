-- Frontiers, as they are found point by point.
use Rattle.std.proofs.Common.{◌≡◌, ◌∙◌, ℕ, ◌+◌, ◌<◌, cond, List, [], ◌∷◌, ◌++◌, length, map, take, get_or, refl, ap}
use Rattle.std.specs.Prelude.{Bool, ◌&&◌, true, false}
use Rattle.std.specs.List.{filter}
use Rattle.std.proofs.lemmas.List.{map_push, take_more}
use Rattle.std.proofs.lemmas.List.Elements.{filter-append}
use Rattle.plan_space.specs.declared.surface.SurfacePoint.{SurfacePoint}

pub point-more : (found : List SurfacePoint) (at : SurfacePoint) (on : Bool) (point : List ℕ) → at.point ≡ point → on ≡ true
    → map (λ (one : SurfacePoint). one.point) (found ++ at ∷ []) ≡ map (λ (one : SurfacePoint). one.point) found ++ cond on (point ∷ []) []
point-more found at on point is taken =
    rw taken (map_push (λ (one : SurfacePoint). one.point) found at ∙ ap (λ p. map (λ (one : SurfacePoint). one.point) found ++ p ∷ []) is)

-- one point of the grid more
pub filtered-next : (test : List ℕ → Bool) (points : List (List ℕ)) (place : ℕ) → place < length points
    → filter test (take (place + 1) points) ≡ filter test (take place points) ++ cond (test (get_or points place [])) (get_or points place [] ∷ []) []
filtered-next test points place below =
    ap (filter test) (take_more points place [] below) ∙ filter-append test (take place points) (get_or points place [] ∷ [])

-- a point of a frontier is within its cost
pub on-within : (within none : Bool) → (within && none) ≡ true → within ≡ true
on-within true none on = refl
on-within false none on = on
