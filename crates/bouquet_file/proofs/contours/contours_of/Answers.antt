use Rattle.std.proofs.Common.{map, rules}
use Rattle.query_block.specs.Blocks.{block_tree}
use Rattle.bouquet_type.specs.Trees.{contour_tree}
use Rattle.bouquet_file.specs.Checks.{contour_at}
use Rattle.bouquet_file.specs.Parts.{contour_seen}
use Rattle.bouquet_file.proofs.Walks.{walk-ends, walk-fails, walk-pushes, handed-on}
use Rattle.bouquet_file.proofs.contours.contours_of.Goals as goal

pub returns-clause-contours : goal.returns-clause-contours
returns-clause-contours c =
    walk-ends contour_seen (contour_at (block_tree c.args.block.now)) c.args.parts.now c.loop-place.place _ c.loop-place-test.false c.loop-place.invariant.walked

pub returns-in_err-contour_at-clause-contours : goal.returns-in_err-contour_at-clause-contours
returns-in_err-contour_at-clause-contours c =
    handed-on contour_tree (λ contours. map contour_tree contours.items) _ _ c.in_err-contour_at.field-0.0 c.from_residual.result c.from_residual.ensures.1
    (walk-fails contour_seen (contour_at (block_tree c.args.block.now)) c.args.parts.now c.loop-place.place c.index-parts-place.result _ c.in_err-contour_at.field-0.0
    c.loop-place-test.true c.index-parts-place.is c.loop-place.invariant.walked)
    c.in_err-contour_at.ensures.contour

pub loop-place-preserved : goal.loop-place-preserved
loop-place-preserved c = record {
  walked =
      walk-pushes contour_seen (contour_at (block_tree c.args.block.now)) contour_tree c.args.parts.now c.loop-place.place c.index-parts-place.result c.loop-place.contours.items c.push.new.self.items
      c.in_ok-contour_at.field-0 c.loop-place-test.true c.index-parts-place.is c.in_ok-contour_at.ensures.contour c.in_ok-push.ensures.items c.loop-place.invariant.walked;
  count = search rules;
  are_contours = search rules;
}
