-- What comes of CHECK, and what a verdict says.
use Rattle.std.specs.Prelude.{◌≡◌, ℕ, List}
use Rattle.plan_tree.specs.Plans.{PlanTree}
use Rattle.bouquet_type.specs.Trees.{BouquetTree}
use Rattle.bouquet_type.specs.Bounded.{IsWithinBound}
use Rattle.bouquet_type.specs.Runs.{total_work}
use Rattle.bouquet_check.specs.Evidence.{IsEvidence}
use Rattle.bouquet_check.specs.Verdicts.{Sound, verdict_of}
use Rattle.workspace.specs.Printed.{check_line}
use Rattle.workspace.specs.declared.refusal.Refusal.TheVariants as refusal
use Rattle.workspace.specs.Outcome.{Outcome, Prints, outcome_of}
use Rattle.sql_values.specs.Steps.{pure, need, ◌>>=◌}
use Rattle.workspace.specs.World.{World, named_in}

-- the verdict on the bouquet of this name by its own counts, stale or not
abbrev pub check_outcome : World → (name : List ℕ) → Outcome
check_outcome world name = outcome_of do
  named ← need (refusal.NoBouquet name) (named_in name world.bouquets)
  pure (Prints (check_line (verdict_of named.bouquet)) 0 world)

-- it is as its verdict says, and where that is sound the work of each of its runs is within the bound, whatever its plans work
pub record VerdictHolds (bouquet : BouquetTree) : Type 0 where
  pub shown : IsEvidence bouquet (verdict_of bouquet)
  pub bound : verdict_of bouquet ≡ Sound → (work : PlanTree → ℕ) → IsWithinBound bouquet work (total_work bouquet work)
