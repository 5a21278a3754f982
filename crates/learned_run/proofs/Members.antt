-- The members of a bouquet's schedule are plans at their places on its contours.
use Rattle.std.proofs.Common.{◌≡◌, ◌∙◌, ℕ, ◌+◌, ◌-◌, ◌≤◌, ◌++◌, List, [], ◌∷◌, length, refl, ap, sym, subst, arith, append_assoc, length-append}
use Rattle.std.specs.Prelude.{All, Some, slice_get}
use Rattle.std.proofs.lemmas.List.Elements.{All-nil, All-cons, All-append}
use Rattle.plan_tree.specs.Plans.{PlanTree}
use Rattle.bouquet_type.specs.Trees.{BouquetTree, ContourTree}
use Rattle.bouquet_type.specs.Budgets.{budget_of}
use Rattle.bouquet_type.specs.Schedule.{Member, members_on, members_from, schedule}
use Rattle.learned_run.specs.Covering.{IsMemberOf}

-- what stands behind some others is at their number
at-behind : {X : Type 0} (before : List X) (x : X) (after : List X) → slice_get (before ++ x ∷ after) (length before) ≡ Some x
at-behind [] x after = refl
at-behind (first ∷ more) x after = at-behind more x after

numbered-behind : {X : Type 0} (all before : List X) (x : X) (after : List X) → all ≡ before ++ x ∷ after → slice_get all (length before + 1 - 1) ≡ Some x
numbered-behind all before x after are =
    let number : length before + 1 - 1 ≡ length before = omega arith in
    ap (slice_get all) number ∙ ap (λ xs. slice_get xs (length before)) are ∙ at-behind before x after

one-more : {X : Type 0} (all before : List X) (x : X) (after : List X) → all ≡ before ++ x ∷ after → all ≡ (before ++ x ∷ []) ++ after
one-more all before x after are = are ∙ sym (append_assoc before (x ∷ []) after)

longer : {X : Type 0} (before : List X) (x : X) → length (before ++ x ∷ []) ≡ length before + 1
longer before x = length-append before (x ∷ [])

on-contour : (bouquet : BouquetTree) (contour : ContourTree) (number budget : ℕ) (before after : List PlanTree) → (1 ≤ number) × (slice_get bouquet.contours (number - 1) ≡ Some contour) → contour.plans ≡ before ++ after
    → All (IsMemberOf bouquet) (members_on budget number contour.cost (length before + 1) after)
on-contour bouquet contour number budget before [] numbered are = All-nil (IsMemberOf bouquet)
on-contour bouquet contour number budget before (p ∷ more) numbered are =
    let member : Member = record { plan = p; budget = budget; contour = number; place = length before + 1; cost = contour.cost } in
    let rest = on-contour bouquet contour number budget (before ++ p ∷ []) more numbered (one-more contour.plans before p more are) in
    All-cons (IsMemberOf bouquet) member (members_on budget number contour.cost (length before + 1 + 1) more)
    (record { contour = contour; numbered = numbered; cost = refl; some = omega arith; plan = numbered-behind contour.plans before p more are })
    (subst (λ place. All (IsMemberOf bouquet) (members_on budget number contour.cost (place + 1) more)) (longer before p) rest)

from-contour : (bouquet : BouquetTree) (before after : List ContourTree) → bouquet.contours ≡ before ++ after
    → All (IsMemberOf bouquet) (members_from bouquet.threshold (length before + 1) after)
from-contour bouquet before [] are = All-nil (IsMemberOf bouquet)
from-contour bouquet before (contour ∷ more) are =
    let number = length before + 1 in
    let budget = budget_of bouquet.threshold contour.cost in
    let numbered : (1 ≤ number) × (slice_get bouquet.contours (number - 1) ≡ Some contour) = (omega arith, numbered-behind bouquet.contours before contour more are) in
    let rest = from-contour bouquet (before ++ contour ∷ []) more (one-more bouquet.contours before contour more are) in
    All-append (IsMemberOf bouquet) (members_on budget number contour.cost 1 contour.plans) (members_from bouquet.threshold (number + 1) more)
    (subst (λ place. All (IsMemberOf bouquet) (members_on budget number contour.cost place contour.plans)) (omega arith) (on-contour bouquet contour number budget [] contour.plans numbered refl))
    (subst (λ n. All (IsMemberOf bouquet) (members_from bouquet.threshold (n + 1) more)) (longer before contour) rest)

pub members-are : (bouquet : BouquetTree) → All (IsMemberOf bouquet) (schedule bouquet)
members-are bouquet =
    subst (λ n. All (IsMemberOf bouquet) (members_from bouquet.threshold n bouquet.contours)) (omega arith) (from-contour bouquet [] bouquet.contours refl)
