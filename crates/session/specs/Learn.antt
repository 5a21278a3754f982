-- What comes of LEARN.
use Rattle.std.specs.Prelude.{ℕ, nat_le, false, if◌then◌else◌}
use Rattle.sql_values.specs.Steps.{pure, ◌>>=◌}
use Rattle.sql_parse.specs.declared.tree.RunDef.{RunDef}
use Rattle.query_block.specs.Blocks.{BlockTree}
use Rattle.bouquet_type.specs.Trees.{BouquetTree}
use Rattle.bouquet_run.specs.Outcomes.{works_over}
use Rattle.learned_run.specs.Skips.{learned_end, skips_of}
use Rattle.workspace.specs.Outcome.{Outcome, Prints, Refuses, outcome_of}
use Rattle.workspace.specs.World.{World}
use Rattle.workspace.specs.declared.refusal.Refusal.TheVariants as refusal
use Rattle.session.specs.Answered.{used_due}
use Rattle.session.specs.Printed.{learned_text}

-- the answer on a block, by a run of a bouquet that learns: the block's rows, what the run skipped, and how it ends. It costs
-- nothing: no book has its work. Where that is more than may be spent it is refused
abbrev pub learned_block_answer : (max_work : ℕ) → World → BouquetTree → BlockTree → Outcome
learned_block_answer max_work world bouquet block =
    let work = works_over world.database block in
    let end = learned_end bouquet work in
    if nat_le end.total max_work then Prints (learned_text world.database bouquet block (skips_of bouquet work) end) 0 world
    else Refuses (refusal.PastWork max_work false)

-- that of the bouquet of this name with the statement's values
abbrev pub learn_outcome : (max_work : ℕ) → World → RunDef → Outcome
learn_outcome max_work world run = outcome_of do
  (bouquet, block) ← used_due world run.name run.values
  pure (learned_block_answer max_work world bouquet block)
