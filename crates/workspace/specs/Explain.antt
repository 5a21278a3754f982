-- What comes of EXPLAIN.
use Rattle.std.specs.Prelude.{ℕ, List}
use Rattle.workspace.specs.Printed.{explain_text}
use Rattle.workspace.specs.declared.refusal.Refusal.TheVariants as refusal
use Rattle.workspace.specs.Outcome.{Outcome, Prints, outcome_of}
use Rattle.sql_values.specs.Steps.{pure, need, ◌>>=◌}
use Rattle.workspace.specs.World.{World, named_in}

-- a line for each contour of the bouquet of this name, stale or not
abbrev pub explain_outcome : World → (name : List ℕ) → Outcome
explain_outcome world name = outcome_of do
  named ← need (refusal.NoBouquet name) (named_in name world.bouquets)
  pure (Prints (explain_text named.bouquet) 0 world)
