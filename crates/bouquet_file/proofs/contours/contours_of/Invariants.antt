use Rattle.std.proofs.Common.{◌≡◌, All, length, map}
use Rattle.query_block.specs.Blocks.{block_tree}
use Rattle.bouquet_type.specs.Trees.{IsContour, contour_tree}
use Rattle.bouquet_file.specs.Checks.{contour_at}
use Rattle.bouquet_file.specs.Parts.{contour_seen}
use Rattle.bouquet_file.proofs.Walks.{Walked}
use Rattle.bouquet_file.proofs.contours.contours_of.Given as goal

abbrev pub invariant-loop-place : goal.invariant-loop-place
invariant-loop-place l = record {
  walked : Walked contour_seen (contour_at (block_tree l.block)) l.parts l.place (map contour_tree l.contours.items);
  count : length l.contours.items ≡ l.place;
  are_contours : All (IsContour (block_tree l.block)) l.contours.items;
}
