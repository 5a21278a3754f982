-- How a run of a bouquet ends that learns, over a database.
use Rattle.std.specs.Prelude.{◌≡◌, ℕ, ℤ, ◌≤◌, All, List, [], length, Result, Ok, Err}
use Rattle.query_block.specs.Blocks.{BlockTree}
use Rattle.query_block.specs.Meaning.{meaning_of}
use Rattle.plan_tree.specs.Work.{work_of}
use Rattle.db_catalog.specs.Database.{DatabaseState}
use Rattle.exec_pipe.specs.Executions.{AreRowsOf}
use Rattle.bouquet_type.specs.Trees.{BouquetTree}
use Rattle.bouquet_type.specs.Compiled.{IsCompiled}
use Rattle.bouquet_type.specs.Bounded.{IsWithinBound}
use Rattle.bouquet_type.specs.Reports.{told_end}
use Rattle.bouquet_type.specs.declared.report.RunFault.{RunFault}
use Rattle.bouquet_run.specs.Outcomes.{RefusesRun}
use Rattle.learned_run.specs.declared.learned.Learned.{Learned}
use Rattle.learned_run.specs.Skips.{IsSkipOf, learned_end, skips_of}

-- what is told of a run that learns: how many rows the block means, how the run ends, and its skips, which are of the bouquet;
-- so much was paid, no more than this at the most, and it is within the bound where the bouquet is compiled
pub record ReportsLearned (bouquet : BouquetTree) (block : BlockTree) (database : DatabaseState) (most spent : ℕ) (learned : Learned) : Type 0 where
  pub rows : learned.report.rows ≡ length (meaning_of database.tables block)
  pub end : told_end learned.report ≡ learned_end bouquet (work_of database.tables block)
  pub skips : learned.skips.items ≡ skips_of bouquet (work_of database.tables block)
  pub exist : All (IsSkipOf bouquet) learned.skips.items
  pub paid : spent ≡ learned.report.work
  pub fits : learned.report.work ≤ most
  pub bound : IsCompiled bouquet → IsWithinBound bouquet (work_of database.tables block) learned.report.work

-- it is answered: its rows are those of the block that it executes, and this is told of it; or it is refused as any run that
-- ends so, without a row
abbrev pub AnswersLearned : BouquetTree → BlockTree → DatabaseState → (most spent : ℕ) → (results : List (List ℤ)) → Result Learned RunFault → Type 0
AnswersLearned bouquet block database most spent results (Ok learned) =
    ReportsLearned bouquet block database most spent learned × AreRowsOf database block results
AnswersLearned bouquet block database most spent results (Err fault) =
    RefusesRun most (learned_end bouquet (work_of database.tables block)) spent fault × (results ≡ [])
