use Rattle.std.proofs.Common.{◌≡◌, All, length, map}
use Rattle.serde_json.specs.View.{view}
use Rattle.bouquet_file.specs.Checks.{contour_fits}
use Rattle.bouquet_file.specs.Parts.{contour_seen, HasTexts}
use Rattle.bouquet_file.proofs.Walks.{Walked}
use Rattle.bouquet_file.proofs.contours.contours_fit.Given as goal

abbrev pub invariant-loop-place : goal.invariant-loop-place
invariant-loop-place l = record {
  walked : Walked view contour_fits l.contours l.place (map contour_seen l.parts.items);
  texts : All HasTexts l.parts.items;
  count : length l.parts.items ≡ l.place;
}
