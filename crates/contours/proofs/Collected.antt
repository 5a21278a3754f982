-- Contours that are collected as they are made.
use Rattle.std.proofs.Common.{◌≡◌, ◌∙◌, ℕ, ◌≤◌, List, [], ◌∷◌, ◌++◌, All, length, map, refl, ap, sym, subst, append_assoc, arith}
use Rattle.std.specs.Prelude.{Option, Some, None}
use Rattle.std.proofs.lemmas.List.{append-nil, length-map, map_push}
use Rattle.std.proofs.lemmas.List.Elements.{All-tail}
use Rattle.cost_model.specs.Costing.{CostingShape, CostingTree, IsCosting, costing_tree}
use Rattle.bouquet_type.specs.declared.contour.Contour.{Contour}
use Rattle.bouquet_type.specs.Trees.{BouquetTree, ContourTree, contour_tree}
use Rattle.bouquet_type.specs.Compiled.{IsCompiled, compiled}
use Rattle.bouquet_type.specs.Sound.{IsSound}
use Rattle.bouquet_type.specs.Ladders.{AreTried}
use Rattle.contours.specs.Contours.{AreContours, bouquet_of}
use Rattle.contours.specs.declared.maker.Found.{Found}
use Rattle.contours.specs.Lazy.{MakerState, Makes, whole_of, ahead_of}
use Rattle.contours.proofs.Count.{compiled-is, count-last, long-compiled}
use Rattle.contours.proofs.Foot.{HasPlan, compiled-foot, contours-shaped}
use Rattle.contours.proofs.Soundness.{compiled-sound}

-- the contours of the compiled bouquet are these, and those that aren't made yet
pub record AreCollected (costing : CostingTree) (threshold : ℕ) (contours : List Contour) (m : MakerState) : Type 0 where
  pub whole : whole_of m ≡ compiled costing threshold
  pub all : map contour_tree contours ++ ahead_of m ≡ (compiled costing threshold).contours

pub collected-none : (m : MakerState) (costing : CostingShape) (threshold : ℕ) → m ≡ record { costing = costing; threshold = threshold; made = 0 }
    → AreCollected (costing_tree costing) threshold [] m
collected-none m costing threshold same = subst (AreCollected (costing_tree costing) threshold []) (sym same) (record { whole = refl; all = refl })

pub collected-more : (costing : CostingTree) (threshold : ℕ) (contours : List Contour) (contour : Contour) (old new : MakerState) → whole_of new ≡ whole_of old
    → ahead_of old ≡ contour_tree contour ∷ ahead_of new → AreCollected costing threshold contours old → AreCollected costing threshold (contours ++ contour ∷ []) new
collected-more costing threshold contours contour old new whole ahead are =
    let trees = map contour_tree contours in
    record {
      whole = whole ∙ are.whole;
      all = ap (λ (some : List ContourTree). some ++ ahead_of new) (map_push contour_tree contours contour)
          ∙ append_assoc trees (contour_tree contour ∷ []) (ahead_of new)
          ∙ ap (λ (some : List ContourTree). trees ++ some) (sym ahead)
          ∙ are.all;
    }

-- where no contour was made none is left
pub made-none : (old new : MakerState) (made : Option Found) → Makes old new made → ((found : Found) → made ≡ Some found → ⊥) → ahead_of old ≡ []
made-none old new None makes none = makes.0
made-none old new (Some found) makes none = absurd (none found refl)

-- nothing changed then
pub made-same : (old new : MakerState) (made : Option Found) → Makes old new made → ((found : Found) → made ≡ Some found → ⊥) → new ≡ old
made-same old new None makes none = makes.1
made-same old new (Some found) makes none = absurd (none found refl)

-- they are made by this costing
pub collected-costing : (costing : CostingTree) (threshold : ℕ) (contours : List Contour) (m : MakerState) → AreCollected costing threshold contours m → costing_tree m.costing ≡ costing
unfolding compiled
collected-costing costing threshold contours m are = ap (λ (bouquet : BouquetTree). bouquet.costing) are.whole

pub collected-all : (costing : CostingTree) (threshold : ℕ) (contours : List Contour) (m : MakerState) → IsCosting costing → threshold ≤ 1000 → ahead_of m ≡ []
    → AreCollected costing threshold contours m → AreContours costing threshold contours
unfolding compiled
collected-all costing threshold contours m is percent none are =
    let trees = map contour_tree contours in
    let all : trees ≡ (compiled costing threshold).contours = sym (append-nil trees) ∙ ap (λ (some : List ContourTree). trees ++ some) (sym none) ∙ are.all in
    let whole : bouquet_of costing threshold contours ≡ compiled costing threshold =
    ap (λ (some : List ContourTree). record { costing = costing; threshold = threshold; contours = some }) all in
    let foot = compiled-foot costing threshold is percent in
    let tried = All-tail (AreTried costing.block) (record { cost = 0; plans = [] }) (compiled costing threshold).contours foot.tried in
    record {
      whole = whole;
      compiled = subst IsCompiled (sym whole) (compiled-is costing threshold is);
      sound = subst IsSound (sym whole) (compiled-sound costing threshold is);
      few = omega (arith, length-map contours contour_tree, ap length all, long-compiled costing threshold, (count-last costing is).1);
      each = contours-shaped costing.block contours (subst (All (AreTried costing.block)) (sym all) tried) (subst (All HasPlan) (sym all) foot.some);
    }
