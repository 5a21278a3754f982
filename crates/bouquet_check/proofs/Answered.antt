-- Which verdict applies first.
use Rattle.std.proofs.Common.{◌≡◌, ℕ, ◌<◌, ◌≤◌, refl}
use Rattle.std.specs.Prelude.{Some, None}
use Rattle.std.proofs.lemmas.Bool.{lt-ltb, le-ltb}
use Rattle.ess_grid.specs.Points.{bottom_of, top_of}
use Rattle.cost_model.specs.Optimal.{optimal_cost}
use Rattle.bouquet_type.specs.Trees.{BouquetTree}
use Rattle.bouquet_type.specs.Sound.{first_cost, last_cost}
use Rattle.bouquet_check.specs.Verdicts.{First, Step, Last, cover_verdict, verdict_of, wrong_step}

abbrev pub bottom_cost : BouquetTree → ℕ
bottom_cost bouquet = optimal_cost bouquet.costing (bottom_of bouquet.costing.grid)

abbrev pub top_cost : BouquetTree → ℕ
top_cost bouquet = optimal_cost bouquet.costing (top_of bouquet.costing.grid)

pub first-answer : (bouquet : BouquetTree) → bottom_cost bouquet < first_cost bouquet.contours → verdict_of bouquet ≡ First
unfolding verdict_of
first-answer bouquet dear = rw (lt-ltb _ _ dear) refl

pub step-answer : (bouquet : BouquetTree) (number : ℕ) → first_cost bouquet.contours ≤ bottom_cost bouquet → wrong_step 1 bouquet.contours ≡ Some number
    → verdict_of bouquet ≡ Step number
unfolding verdict_of
step-answer bouquet number first step = rw (le-ltb _ _ first, step) refl

pub last-answer : (bouquet : BouquetTree) → first_cost bouquet.contours ≤ bottom_cost bouquet → wrong_step 1 bouquet.contours ≡ None
    → last_cost bouquet.contours < top_cost bouquet → verdict_of bouquet ≡ Last
unfolding verdict_of
last-answer bouquet first steps cheap = rw (le-ltb _ _ first, steps, lt-ltb _ _ cheap) refl

pub covers-answer : (bouquet : BouquetTree) → first_cost bouquet.contours ≤ bottom_cost bouquet → wrong_step 1 bouquet.contours ≡ None
    → top_cost bouquet ≤ last_cost bouquet.contours → verdict_of bouquet ≡ cover_verdict bouquet.costing bouquet.threshold 1 bouquet.contours
unfolding verdict_of
covers-answer bouquet first steps last = rw (le-ltb _ _ first, steps, le-ltb _ _ last) refl
