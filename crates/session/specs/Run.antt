-- What comes of RUN.
use Rattle.std.specs.Prelude.{ℕ}
use Rattle.sql_values.specs.Steps.{pure, ◌>>=◌}
use Rattle.sql_parse.specs.declared.tree.RunDef.{RunDef}
use Rattle.workspace.specs.Outcome.{Outcome, outcome_of}
use Rattle.workspace.specs.World.{World}
use Rattle.session.specs.Answered.{used_due, block_answer}

-- the answer of the bouquet of this name with the statement's values
abbrev pub run_outcome : (max_work : ℕ) → World → RunDef → Outcome
run_outcome max_work world run = outcome_of do
  (bouquet, block) ← used_due world run.name run.values
  pure (block_answer max_work world bouquet block)
