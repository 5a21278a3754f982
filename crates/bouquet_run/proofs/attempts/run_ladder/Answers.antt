use Rattle.std.proofs.Common.{arith}
use Rattle.query_block.specs.Blocks.{block_tree}
use Rattle.known_rows.proofs.Laws.{nothing-known}
use Rattle.bouquet_run.proofs.attempts.run_ladder.Goals as goal

pub run_schedule-answered-requires-clause-engine :
    goal.run_schedule-answered-requires-clause-engine
run_schedule-answered-requires-clause-engine g c = record {
  context = c.requires.context.context;
  known = rw c.new-known.ensures (nothing-known c.args.meter.now.database.tables (block_tree c.args.block.now));
  within = omega (arith, c.requires.unspent);
}
