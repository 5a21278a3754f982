use Rattle.std.proofs.Common.{◌≡◌, length, map}
use Rattle.serde_json.specs.View.{view}
use Rattle.bouquet_file.specs.Checks.{plan_fits}
use Rattle.bouquet_file.proofs.Walks.{Walked}
use Rattle.bouquet_file.proofs.contours.texts_of.Given as goal

abbrev pub invariant-loop-place : goal.invariant-loop-place
invariant-loop-place l = record {
  walked : Walked view (plan_fits l.contour) l.plans l.place (map (λ text. text.now) l.texts.items);
  count : length l.texts.items ≡ l.place;
}
