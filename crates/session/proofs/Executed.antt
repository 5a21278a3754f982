-- The plan of an execution of a schedule, found contour by contour.
use Rattle.std.proofs.Common.{◌≡◌, ◌∙◌, ℕ, zero, suc, ◌+◌, ◌-◌, ◌<◌, ◌≤◌, ◌++◌, List, [], ◌∷◌, drop, length, slice_index_or, refl, ap, arith}
use Rattle.plan_tree.specs.Plans.{PlanTree, Scan}
use Rattle.bouquet_type.specs.Trees.{ContourTree}
use Rattle.bouquet_type.specs.Schedule.{Member, final_of, last_plan, members_on}
use Rattle.bouquet_type.specs.Cursor.{first_attempt}

-- it is on this contour
pub on-contour : (budget number cost place before : ℕ) (plans : List PlanTree) (rest : List Member) (final : PlanTree) → before < length plans
    → (first_attempt (drop before (members_on budget number cost place plans ++ rest)) final).plan ≡ slice_index_or plans before (Scan 0)
on-contour budget number cost place before [] rest final there = absurd (omega (arith, there))
on-contour budget number cost place zero (p ∷ plans) rest final there = refl
on-contour budget number cost place (suc before) (p ∷ plans) rest final there =
    on-contour budget number cost (place + 1) before plans rest final (omega (arith, there))

-- or behind it
pub behind-contour : (budget number cost place before : ℕ) (plans : List PlanTree) (rest : List Member) → length plans ≤ before
    → drop before (members_on budget number cost place plans ++ rest) ≡ drop (before - length plans) rest
behind-contour budget number cost place before [] rest past = ap (λ n. drop n rest) (omega arith)
behind-contour budget number cost place zero (p ∷ plans) rest past = absurd (omega (arith, past))
behind-contour budget number cost place (suc before) (p ∷ plans) rest past =
    behind-contour budget number cost (place + 1) before plans rest (omega (arith, past)) ∙ ap (λ n. drop n rest) (omega arith)

-- the last plans, by their places
pub last-placed : (plans : List PlanTree) (place : ℕ) → place + 1 ≡ length plans → slice_index_or plans place (Scan 0) ≡ last_plan plans
last-placed [] place at = absurd (omega (arith, at))
last-placed (p ∷ []) zero at = refl
last-placed (p ∷ []) (suc place) at = absurd (omega (arith, at))
last-placed (p ∷ other ∷ more) zero at = absurd (omega (arith, at))
last-placed (p ∷ other ∷ more) (suc place) at = last-placed (other ∷ more) place (omega (arith, at))

pub final-placed : (contours : List ContourTree) (place : ℕ) (none : ContourTree) → place + 1 ≡ length contours → last_plan (slice_index_or contours place none).plans ≡ final_of contours
final-placed [] place none at = absurd (omega (arith, at))
final-placed (contour ∷ []) zero none at = refl
final-placed (contour ∷ []) (suc place) none at = absurd (omega (arith, at))
final-placed (contour ∷ next ∷ more) zero none at = absurd (omega (arith, at))
final-placed (contour ∷ next ∷ more) (suc place) none at = final-placed (next ∷ more) place none (omega (arith, at))
