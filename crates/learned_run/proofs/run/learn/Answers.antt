use Rattle.std.proofs.Common.{arith}
use Rattle.query_block.specs.Blocks.{block_tree}
use Rattle.known_rows.proofs.Laws.{nothing-known}
use Rattle.learned_run.proofs.run.learn.Goals as goal

pub execute_unskipped-requires-clause-engine : goal.execute_unskipped-requires-clause-engine
execute_unskipped-requires-clause-engine c = record {
  context = c.requires.context.context;
  known = rw c.new-known.ensures (nothing-known c.args.meter.now.database.tables (block_tree c.args.block.now));
  within = omega (arith, c.requires.unspent);
}
