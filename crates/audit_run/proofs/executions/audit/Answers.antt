use Rattle.std.proofs.Common.{◌∙◌, ap, subst, sym}
use Rattle.query_block.specs.Shape.{BlockShape}
use Rattle.query_block.specs.Blocks.{BlockTree, block_tree, put_of}
use Rattle.db_catalog.specs.Fits.{Fits}
use Rattle.db_catalog.proofs.PutBlocks.{put-fits-tables}
use Rattle.audit_run.proofs.executions.audit.Goals as goal

pub audit_block-requires : goal.audit_block-requires
audit_block-requires c =
    let put : BlockShape → BlockTree = λ shape. put_of c.args.values.now (block_tree shape) in
    let same = c.in-Ok.ensures ∙ ap put c.block.ensures.block in
    record {
      bouquet_is = c.block.ensures.bouquet;
      put = record { values = c.args.values.now; fit = c.requires.values; is = same };
      fits = subst (Fits c.args.db.now) (sym same) (put-fits-tables c.args.db.now c.args.values.now (block_tree c.args.b.now.block) c.requires.fits);
      point = c.requires.point;
    }
