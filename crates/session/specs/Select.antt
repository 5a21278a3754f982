-- What comes of SELECT.
use Rattle.std.specs.Prelude.{ℕ, [], None}
use Rattle.sql_values.specs.Limits.{default_threshold}
use Rattle.sql_values.specs.Steps.{pure, ◌>>=◌, ◌>>◌}
use Rattle.query_block.specs.Blocks.{put_of}
use Rattle.query_block.specs.Values.{value_fault}
use Rattle.sql_parse.specs.Trees.{QueryTree}
use Rattle.workspace.specs.Bouquets.{block_due, compiled_due}
use Rattle.workspace.specs.Outcome.{Outcome, outcome_of, unless}
use Rattle.workspace.specs.declared.refusal.Refusal.TheVariants as refusal
use Rattle.workspace.specs.World.{World}
use Rattle.session.specs.Answered.{block_answer}

-- the answer of a query's bouquet, by as many levels as none given say and the threshold that holds where none is given. A SELECT
-- has no values, so it is refused before where its block has a parameter
abbrev pub select_outcome : (max_work : ℕ) → World → QueryTree → Outcome
select_outcome max_work world query = outcome_of do
  block ← block_due world.database query
  unless refusal.NotFitting (value_fault block.parameters [])
  bouquet ← compiled_due world.database None default_threshold block
  pure (block_answer max_work world bouquet (put_of [] bouquet.costing.block))
