-- What is seen of a job, and what always holds of it.
use Rattle.std.specs.Prelude.{ℕ, Option, None, Some, Result, Ok, Err}
use Rattle.row_stack.specs.declared.space.Space.{Space}
use Rattle.row_stack.specs.Stack.{new_stack}
use Rattle.work_ledger.specs.Budget.{new_account}
use Rattle.query_block.specs.Blocks.{BlockTree, IsPutOf, block_tree, width_of}
use Rattle.query_block.specs.Shape.{BlockShape}
use Rattle.db_catalog.specs.Database.{DatabaseState}
use Rattle.db_catalog.specs.Meter.{MeterState}
use Rattle.known_rows.specs.Known.{KnownState}
use Rattle.exec_pipe.specs.Runs.{OnlyRunsWithin}
use Rattle.exec_pipe.specs.Scenes.{IsContext}
use Rattle.bouquet_type.specs.Cursor.{ScheduleState, members_left}
use Rattle.bouquet_type.specs.Kept.{KeptState, ladder_of}
use Rattle.bouquet_type.specs.Runs.{run_end}
use Rattle.bouquet_type.specs.Reports.{told_end}
use Rattle.bouquet_type.specs.declared.report.Report.{Report}
use Rattle.bouquet_type.specs.declared.report.RunFault.{RunFault}
use Rattle.bouquet_type.specs.declared.report.RunFault.TheVariants.{WorkLimit, NoMemory}
use Rattle.bouquet_run.specs.Running.{IsUnderWay}
use Rattle.bouquet_run.specs.Outcomes.{AnswersRun, works_over}
use Rattle.turns.specs.Standing.{JobTask, Standing, Runs, Ended, Past, Lost}
use Rattle.turns.specs.declared.progress.Progress.{Progress}
use Rattle.turns.specs.declared.progress.Progress.TheVariants.{Running, Answered, Limited, Broken}
use Rattle.turns.specs.declared.state.JobState.{JobState}
use Rattle.turns.specs.declared.state.JobState.TheVariants as state

-- its meter, its two stacks and what its executions learned; its schedule: the contours, and of that at hand how many plans were
-- given, the budget and the number; the block that is executed, and the most work; and how far it is
pub record JobShape : Type 0 where
  pub meter : MeterState
  pub space : Space
  pub known : KnownState
  pub ladder : KeptState
  pub given : ℕ
  pub budget : Option ℕ
  pub number : ℕ
  pub block : BlockShape
  pub most : ℕ
  pub progress : Progress

abbrev pub schedule_in : JobShape → ScheduleState
schedule_in job = record { ladder = ladder_of job.ladder; given = job.given; budget = job.budget; number = job.number }

-- what is asked of a job with this schedule
abbrev pub task_at : DatabaseState → ScheduleState → BlockTree → (most : ℕ) → JobTask
task_at database schedule block most = record { database = database; bouquet = schedule.ladder.whole; block = block; most = most }

abbrev pub task_of : JobShape → JobTask
task_of job = task_at job.meter.database (schedule_in job) (block_tree job.block) job.most

-- how it stands, by how far it is
abbrev pub standing_at : (spent : ℕ) → ScheduleState → Progress → Standing
standing_at spent schedule (Running place) = Runs place spent (members_left schedule)
standing_at spent schedule (Answered report) = Ended (told_end report)
standing_at spent schedule Limited = Past
standing_at spent schedule Broken = Lost

-- a job as what it is asked and how it stands
pub record JobTree : Type 0 where
  pub task : JobTask
  pub standing : Standing

abbrev pub job_tree : JobShape → JobTree
job_tree job = record { task = task_of job; standing = standing_at job.meter.account.spent (schedule_in job) job.progress }

-- what `state` and `report` tell of it
abbrev pub job_state_of : Progress → JobState
job_state_of (Running place) = state.Running place
job_state_of (Answered report) = state.Answered
job_state_of Limited = state.Limited
job_state_of Broken = state.Broken

abbrev pub report_of : Progress → Option Report
report_of (Running place) = None
report_of (Answered report) = Some report
report_of Limited = None
report_of Broken = None

-- how far a job is after this execution, the last of so many
abbrev pub progress_by : Result (Option Report) RunFault → (place : ℕ) → Progress
progress_by (Ok None) place = Running place
progress_by (Ok (Some report)) place = Answered report
progress_by (Err (WorkLimit spent)) place = Limited
progress_by (Err NoMemory) place = Broken

-- the meter and the stacks of a job before its first turn
abbrev pub fresh_meter : DatabaseState → MeterState
fresh_meter database = record { database = database; account = new_account }

abbrev pub fresh_space : (width : ℕ) → Space
fresh_space width = record { work = new_stack width; result = new_stack width }

-- what its executions have come to: no row yet, so many were exhausted and the rest is left; or what the run alone promises of its
-- answer, or of its refusal
abbrev pub HasRun : JobTask → MeterState → ScheduleState → Space → Progress → Type 0
HasRun task meter schedule space (Running place) =
    IsUnderWay task.bouquet task.block task.most (run_end task.bouquet (works_over task.database task.block)) (fresh_meter task.database) (fresh_space (width_of task.block))
    (members_left schedule) (record { schedule = schedule; meter = meter; space = space; runs = place })
HasRun task meter schedule space (Answered report) =
    AnswersRun task.bouquet task.block task.database task.most meter.account.spent space.result.rows (Ok report)
HasRun task meter schedule space Limited =
    AnswersRun task.bouquet task.block task.database task.most meter.account.spent space.result.rows (Err (WorkLimit task.most))
HasRun task meter schedule space Broken =
    AnswersRun task.bouquet task.block task.database task.most meter.account.spent space.result.rows (Err NoMemory)

-- what always holds of a job: its rows are those that this says, its executions fit, and no room of its stacks is lost
pub record IsJobOf (task : JobTask) (meter : MeterState) (schedule : ScheduleState) (space : Space) (progress : Progress) : Type 0 where
  pub block : IsPutOf task.bouquet.costing.block task.block
  pub context : IsContext meter task.block space
  pub leaves : OnlyRunsWithin task.most (fresh_meter task.database) meter (fresh_space (width_of task.block)) space
  pub has_run : HasRun task meter schedule space progress

abbrev pub IsJob : JobShape → Type 0
IsJob job = IsJobOf (task_of job) job.meter (schedule_in job) job.space job.progress
