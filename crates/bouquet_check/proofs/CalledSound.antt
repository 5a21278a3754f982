-- A bouquet is called sound exactly where it is.
use Rattle.std.proofs.Common.{◌≡◌, ◌↔◌, ℕ, ◌+◌, List, [], ◌∷◌, get_or, refl, subst, arith}
use Rattle.std.proofs.lemmas.Grind.{common_steps}
use Rattle.std.specs.Prelude.{All}
use Rattle.std.proofs.lemmas.List.Elements.{All-head, All-tail}
use Rattle.plan_tree.proofs.Members.{contained-in}
use Rattle.cost_model.specs.Costing.{IsCosting}
use Rattle.cost_model.specs.Frontier.{frontier}
use Rattle.bouquet_type.specs.Trees.{BouquetTree, ContourTree}
use Rattle.bouquet_type.specs.Budgets.{budget_of}
use Rattle.bouquet_type.specs.Sound.{IsSound}
use Rattle.bouquet_type.proofs.FitsBelow.{frontier-within}
use Rattle.bouquet_check.specs.Verdicts.{Sound, cover_verdict, verdict_of}
use Rattle.bouquet_check.specs.Evidence.{IsEvidence}
use Rattle.bouquet_check.proofs.Fitting.{fits-from, frontier-point, all-covered}
use Rattle.bouquet_check.proofs.Answered.{covers-answer}
use Rattle.bouquet_check.proofs.Steps.{none-doubled}
use Rattle.bouquet_check.proofs.Shown.{IsCovered, verdict-shown}

-- of a sound bouquet no contour has an uncovered point
sound-covered : (bouquet : BouquetTree) → IsCosting bouquet.costing → IsSound bouquet → All (IsCovered bouquet) bouquet.contours
sound-covered bouquet is sound = λ k d there.
    let costing = bouquet.costing in
    let contour = get_or bouquet.contours k d in
    let budget = budget_of bouquet.threshold contour.cost in
    all-covered costing contour.cost budget contour.plans (
    λ point on.
    let is_point = frontier-point costing contour.cost point is.grid on in
    let within = frontier-within costing contour.cost point (contained-in point (frontier costing contour.cost) on) in
    fits-from costing bouquet.threshold point contour (sound.covered point is_point k d there within)
    )

all-sound : (bouquet : BouquetTree) (number : ℕ) (contours : List ContourTree) → All (IsCovered bouquet) contours → cover_verdict bouquet.costing bouquet.threshold number contours ≡ Sound
all-sound bouquet number [] all = refl
all-sound bouquet number (contour ∷ more) all =
    grind (arith, common_steps, All-head, All-tail, all-sound bouquet (number + 1) more (All-tail (IsCovered bouquet) contour more all))

sound-called : (bouquet : BouquetTree) → IsCosting bouquet.costing → IsSound bouquet → verdict_of bouquet ≡ Sound
sound-called bouquet is sound = grind (arith, common_steps, covers-answer, none-doubled, all-sound, sound-covered)

pub called-sound : (bouquet : BouquetTree) → IsCosting bouquet.costing → verdict_of bouquet ≡ Sound → IsSound bouquet
called-sound bouquet is called = subst (IsEvidence bouquet) called (verdict-shown bouquet is)

pub sound-decided : (bouquet : BouquetTree) → IsCosting bouquet.costing → (verdict_of bouquet ≡ Sound) ↔ IsSound bouquet
sound-decided bouquet is = (called-sound bouquet is, sound-called bouquet is)
