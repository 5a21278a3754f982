use Rattle.std.proofs.Common.{length, ap, arith}
use Rattle.std.proofs.Math.ListN.{length-map}
use Rattle.std.proofs.lemmas.Slice.Zip.{AllZip-long}
use Rattle.query_block.specs.Blocks.{relation_tree, block_tree}
use Rattle.cost_model.specs.Fits.{FitsRelation}
use Rattle.bouquet_file.proofs.opened.current_contours.Goals as goal

pub check_counts-requires-clause-as_many : goal.check_counts-requires-clause-as_many
check_counts-requires-clause-as_many c =
    omega (
      arith,
      c.requires.counts,
      ap length c.as_slice.ensures.value,
      ap length c.as_slice-2.ensures,
      AllZip-long FitsRelation (block_tree c.args.block.now).relations c.args.stats.now.relations c.requires.stats.relations,
      length-map c.args.block.now.relations relation_tree,
    )
