-- The bouquet's own ladder gives its contours.
use Rattle.std.proofs.Common.{subst, sym}
use Rattle.query_block.specs.Blocks.{IsPutOf, block_tree}
use Rattle.bouquet_type.specs.Trees.{BouquetTree}
use Rattle.workspace.specs.States.{world_of}
use Rattle.session.specs.Answered.{block_answer}
use Rattle.session.specs.Returns.{ReturnsDue}
use Rattle.session.proofs.session.Session.answered.Goals as goal

pub block_answer-requires-clause-put : goal.block_answer-requires-clause-put
block_answer-requires-clause-put c =
    rw c.block.ensures (subst (λ (whole : BouquetTree). IsPutOf whole.costing.block (block_tree c.args.used.now.block)) (sym c.new-ladder.ensures.whole) c.requires.usable.put)

pub block_answer-requires-clause-fits : goal.block_answer-requires-clause-fits
block_answer-requires-clause-fits c = rw (c.block.ensures, c.self.view_is) c.requires.usable.fits

pub returns-clause-due : goal.returns-clause-due
returns-clause-due c =
    rw (← c.self.view_is)
    (subst (λ (whole : BouquetTree). ReturnsDue (block_answer c.args.max_work (world_of c.self.inside.workspace) whole (block_tree c.args.used.now.block)) c.block_answer.result (world_of c.self.inside.workspace) c.args.book.now c.block_answer.new.book)
    c.new-ladder.ensures.whole (rw c.block.ensures at c.block_answer.ensures.due))
