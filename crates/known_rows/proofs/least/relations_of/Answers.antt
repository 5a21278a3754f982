use Rattle.query_block.specs.Blocks.{block_tree}
use Rattle.plan_tree.specs.Plans.{plan_tree}
use Rattle.exec_join.proofs.Sets.{fits-set}
use Rattle.known_rows.proofs.least.relations_of.Goals as goal

pub covers-requires : goal.covers-requires
covers-requires c = fits-set (block_tree c.args.block.now) (plan_tree c.args.p.now) c.relations.ensures.block.few c.requires
