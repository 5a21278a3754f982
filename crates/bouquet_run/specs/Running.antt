-- What lies between two executions of a run, and what comes of an execution.
use Rattle.std.specs.Prelude.{◌≡◌, ℕ, ◌+◌, ◌≤◌, ◌^◌, List, [], length, Option, None, Some, Result, Ok, Err}
use Rattle.row_stack.specs.declared.space.Space.{Space}
use Rattle.query_block.specs.Blocks.{BlockTree, block_tree}
use Rattle.db_catalog.specs.Meter.{MeterState}
use Rattle.exec_pipe.specs.Executions.{AreRowsOf}
use Rattle.exec_pipe.specs.declared.engine.Engine.{Engine}
use Rattle.exec_pipe.specs.Runs.{OnlyRuns}
use Rattle.exec_pipe.specs.Starting.{plan_work}
use Rattle.bouquet_type.specs.Trees.{BouquetTree}
use Rattle.bouquet_type.specs.Schedule.{Member, final_plan}
use Rattle.bouquet_type.specs.Cursor.{ScheduleState, IsSchedule, attempt_tree, members_behind, members_left}
use Rattle.bouquet_type.specs.declared.schedule.Attempt.{Attempt}
use Rattle.bouquet_type.specs.Runs.{RunEnd, end_behind, end_of}
use Rattle.bouquet_type.specs.declared.report.Report.{Report}
use Rattle.bouquet_type.specs.declared.report.RunFault.{RunFault}
use Rattle.bouquet_run.specs.Coming.{TellsStep, coming}
use Rattle.bouquet_run.specs.Outcomes.{ReportsRun, RefusesRun, works_over}

-- how far a run is: its schedule, its meter and its stacks, and how many executions it made
pub record RunState : Type 0 where
  pub schedule : ScheduleState
  pub meter : MeterState
  pub space : Space
  pub runs : ℕ

-- that of a run over an engine
abbrev pub run_state : ScheduleState → Engine → (runs : ℕ) → RunState
run_state schedule engine runs = record { schedule = schedule; meter = engine.meter.now; space = engine.space.now; runs = runs }

-- an execution of this number, from 1, over an engine tells what comes of it
abbrev pub TellsExecution : (old new : Engine) → (runs : ℕ) → Attempt → Result (Option Report) RunFault → Type 0
TellsExecution old new runs attempt told =
    TellsStep old.meter.now.database (block_tree old.block.now) old.max_work
    (coming old.max_work old.meter.now.account.spent runs (plan_work old.meter.now old.block.now attempt.plan.now) (attempt_tree attempt))
    new.meter.now.account.spent new.space.now.result.rows told

-- a run that ends so began with this meter and these stacks, and these executions are due: those before weren't done and spent
-- what the meter says, and no row stands on the stacks
pub record IsUnderWay (bouquet : BouquetTree) (block : BlockTree) (most : ℕ) (ending : RunEnd) (first : MeterState) (empty : Space) (due : List Member) (run : RunState) : Type 0 where
  pub end : ending ≡ end_behind run.meter.account.spent run.runs (end_of (works_over first.database block) due (final_plan bouquet))
  pub few : run.runs + length (members_left run.schedule) ≤ 2 ^ 19
  pub is : IsSchedule run.schedule
  pub of : run.schedule.ladder.whole ≡ bouquet
  pub within : run.meter.account.spent ≤ most
  pub leaves : OnlyRuns first run.meter empty run.space
  pub rows : run.space.result.rows ≡ []

-- an execution more was made: it wasn't done, and the run goes on behind it; or the run is answered, or refused
abbrev pub Steps : BouquetTree → BlockTree → (most : ℕ) → (ending : RunEnd) → (first : MeterState) → (empty : Space) → (due : List Member) → RunState → Result (Option Report) RunFault → Type 0
Steps bouquet block most ending first empty due run (Ok None) = IsUnderWay bouquet block most ending first empty (members_behind due) run
Steps bouquet block most ending first empty due run (Ok (Some report)) =
    ReportsRun block first.database most ending run.meter.account.spent report × AreRowsOf first.database block run.space.result.rows
Steps bouquet block most ending first empty due run (Err fault) =
    RefusesRun most ending run.meter.account.spent fault × (run.space.result.rows ≡ [])
