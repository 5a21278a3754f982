-- The most plans of some contours.
use Rattle.std.proofs.Common.{◌≡◌, ℕ, zero, suc, ◌+◌, ◌<◌, ◌≤◌, max, List, [], ◌∷◌, length, map, drop, slice_index_or, refl, arith, add-one}
use Rattle.std.proofs.lemmas.Grind.{common_steps}
use Rattle.std.proofs.lemmas.List.{length-map}
use Rattle.std.proofs.lemmas.List.Elements.{All-head, All-tail}
use Rattle.std.specs.Prelude.{All}
use Rattle.sql_values.specs.Limits.{max_points}
use Rattle.query_block.specs.Blocks.{BlockTree}
use Rattle.plan_tree.specs.Plans.{plan_tree}
use Rattle.bouquet_type.specs.declared.contour.Contour.{Contour}
use Rattle.bouquet_type.specs.Trees.{IsContour, contour_tree}
use Rattle.bouquet_type.specs.Budgets.{most_plans}

-- the most plans of those from a place on
abbrev pub most_from : (place : ℕ) → List Contour → ℕ
most_from place contours = most_plans (map contour_tree (drop place contours))

pub most_from-next : (place : ℕ) (contours : List Contour) (contour : Contour) → place < length contours → contour ≡ slice_index_or contours place contour
    → most_from place contours ≡ max (length contour.plans.items) (most_from (place + 1) contours)
most_from-next zero [] contour there at = absurd (omega (arith, there))
most_from-next (suc place) [] contour there at = absurd (omega (arith, there))
most_from-next zero (first ∷ more) contour there at = grind (arith, common_steps, length-map)
most_from-next (suc place) (first ∷ more) contour there at =
    rw add-one (rw add-one at (most_from-next place more contour (omega (arith, there)) at))

pub most_from-end : (place : ℕ) (contours : List Contour) → length contours ≤ place → most_from place contours ≡ 0
most_from-end zero [] past = refl
most_from-end (suc place) [] past = refl
most_from-end zero (first ∷ more) past = absurd (omega (arith, past))
most_from-end (suc place) (first ∷ more) past = most_from-end place more (omega (arith, past))

-- there are some on each contour, and not too many
pub most-some : (block : BlockTree) (contours : List Contour) → 1 ≤ length contours → All (IsContour block) contours → 1 ≤ most_plans (map contour_tree contours)
most-some block [] some are = absurd (omega (arith, some))
most-some block (first ∷ more) some are = grind (arith, common_steps, All-head, length-map)

pub most-few : (block : BlockTree) (contours : List Contour) → All (IsContour block) contours → most_plans (map contour_tree contours) ≤ max_points
most-few block [] are = omega arith
most-few block (first ∷ more) are =
    let here = All-head (IsContour block) first more are in
    omega (arith, here.few, length-map first.plans.items plan_tree, most-few block more (All-tail (IsContour block) first more are))
