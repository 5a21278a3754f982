-- How a run ends, over a database.
use Rattle.std.specs.Prelude.{◌≡◌, ℕ, ℤ, ◌<◌, ◌≤◌, ⊤, List, [], length, Result, Ok, Err}
use Rattle.query_block.specs.Blocks.{BlockTree}
use Rattle.query_block.specs.Meaning.{meaning_of}
use Rattle.plan_tree.specs.Plans.{PlanTree}
use Rattle.plan_tree.specs.Work.{work_of}
use Rattle.db_catalog.specs.Database.{DatabaseState}
use Rattle.bouquet_type.specs.Trees.{BouquetTree}
use Rattle.exec_pipe.specs.Executions.{AreRowsOf}
use Rattle.bouquet_type.specs.Runs.{RunEnd, run_end}
use Rattle.bouquet_type.specs.Bounded.{MeetsBound}
use Rattle.bouquet_type.specs.Reports.{told_end}
use Rattle.bouquet_type.specs.declared.report.Report.{Report}
use Rattle.bouquet_type.specs.declared.report.RunFault.{RunFault}
use Rattle.bouquet_type.specs.declared.report.RunFault.TheVariants.{WorkLimit, NoMemory}

-- what each plan takes that a run may execute on a block, over a database
abbrev pub works_over : DatabaseState → BlockTree → PlanTree → ℕ
works_over database block = work_of database.tables block

-- a report tells a run on a block over a database that ends so: how many rows the block means, and the end; so much was paid, no
-- more than this at the most
pub record ReportsRun (block : BlockTree) (database : DatabaseState) (most : ℕ) (ending : RunEnd) (spent : ℕ) (report : Report) : Type 0 where
  pub rows : report.rows ≡ length (meaning_of database.tables block)
  pub end : told_end report ≡ ending
  pub paid : spent ≡ report.work
  pub fits : report.work ≤ most

-- a run that ends so is refused where its work is more than this at the most, and so much was paid; or out of memory
abbrev pub RefusesRun : (most : ℕ) → (ending : RunEnd) → (spent : ℕ) → RunFault → Type 0
RefusesRun most ending spent (WorkLimit told) = (most < ending.total) × (told ≡ most) × (spent ≡ most)
RefusesRun most ending spent NoMemory = ⊤

-- the run of a bouquet is answered: its rows are those of the block that it executes, a report tells it, and it is within the
-- bound; or it is refused, without a row
abbrev pub AnswersRun : BouquetTree → BlockTree → DatabaseState → (most spent : ℕ) → (results : List (List ℤ)) → Result Report RunFault → Type 0
AnswersRun bouquet block database most spent results (Ok report) =
    let work = works_over database block in
    ReportsRun block database most (run_end bouquet work) spent report × AreRowsOf database block results × MeetsBound bouquet work report.work
AnswersRun bouquet block database most spent results (Err fault) =
    RefusesRun most (run_end bouquet (works_over database block)) spent fault × (results ≡ [])
