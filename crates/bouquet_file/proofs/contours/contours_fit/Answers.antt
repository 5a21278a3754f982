use Rattle.std.proofs.Common.{map, rules}
use Rattle.serde_json.specs.View.{view}
use Rattle.bouquet_file.specs.Checks.{contour_fits}
use Rattle.bouquet_file.specs.Parts.{contour_seen}
use Rattle.bouquet_file.proofs.Walks.{walk-ends, walk-fails, walk-pushes, handed-on}
use Rattle.bouquet_file.proofs.contours.contours_fit.Goals as goal

pub returns-clause-parts : goal.returns-clause-parts
returns-clause-parts c = walk-ends view contour_fits c.args.contours.now c.loop-place.place _ c.loop-place-test.false c.loop-place.invariant.walked

pub returns-in_err-contour_fits-clause-parts : goal.returns-in_err-contour_fits-clause-parts
returns-in_err-contour_fits-clause-parts c =
    handed-on contour_seen (λ parts. map contour_seen parts.items) _ _ c.in_err-contour_fits.field-0.0 c.from_residual.result c.from_residual.ensures.1
    (walk-fails view contour_fits c.args.contours.now c.loop-place.place c.index-contours-place.result _ c.in_err-contour_fits.field-0.0
    c.loop-place-test.true c.index-contours-place.is c.loop-place.invariant.walked)
    c.in_err-contour_fits.ensures.parts

pub loop-place-preserved : goal.loop-place-preserved
loop-place-preserved c = record {
  walked =
      walk-pushes view contour_fits contour_seen c.args.contours.now c.loop-place.place c.index-contours-place.result c.loop-place.parts.items c.push.new.self.items
      c.in_ok-contour_fits.field-0 c.loop-place-test.true c.index-contours-place.is c.in_ok-contour_fits.ensures.parts c.in_ok-push.ensures.items c.loop-place.invariant.walked;
  texts = search rules;
  count = search rules;
}
