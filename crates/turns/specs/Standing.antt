-- What a job is asked, and how it stands after some turns.
use Rattle.std.specs.Prelude.{ℕ, zero, suc, ◌+◌, List}
use Rattle.query_block.specs.Blocks.{BlockTree}
use Rattle.db_catalog.specs.Database.{DatabaseState}
use Rattle.bouquet_type.specs.Trees.{BouquetTree}
use Rattle.bouquet_type.specs.Schedule.{Member, final_plan, schedule}
use Rattle.bouquet_type.specs.Cursor.{first_attempt, members_behind}
use Rattle.bouquet_type.specs.Runs.{RunEnd}
use Rattle.bouquet_run.specs.Coming.{Coming, Passes, Ends, GoesOn, coming}
use Rattle.bouquet_run.specs.Outcomes.{works_over}

-- a bouquet is to be run on a block over a database, and no more than this may be spent
pub record JobTask : Type 0 where
  pub database : DatabaseState
  pub bouquet : BouquetTree
  pub block : BlockTree
  pub most : ℕ

-- so many turns were taken and so much was spent, and these executions are left, with that of the final plan behind them; or
-- the run has ended so; or it is past the most work; or memory ran out
pub data Standing : Type 0 where
  Runs : (place spent : ℕ) → (left : List Member) → Standing
  Ended : RunEnd → Standing
  Past : Standing
  Lost : Standing

-- what comes of the execution that comes next
abbrev pub next_coming : JobTask → (place spent : ℕ) → (left : List Member) → Coming
next_coming task place spent left =
    let attempt = first_attempt left (final_plan task.bouquet) in
    coming task.most spent (place + 1) (works_over task.database task.block attempt.plan) attempt

-- how a job stands of whose execution this came, the last of so many, with these left behind it
abbrev pub stands_by : Coming → (place : ℕ) → (left : List Member) → Standing
stands_by Passes place left = Past
stands_by (Ends end) place left = Ended end
stands_by (GoesOn spent) place left = Runs place spent left

-- a turn is one execution of a job that runs; of another job it changes nothing
abbrev pub turn_of : JobTask → Standing → Standing
turn_of task (Runs place spent left) = stands_by (next_coming task place spent left) (place + 1) (members_behind left)
turn_of task (Ended end) = Ended end
turn_of task Past = Past
turn_of task Lost = Lost

-- so many turns
abbrev pub turns_of : JobTask → (count : ℕ) → Standing → Standing
turns_of task zero standing = standing
turns_of task (suc count) standing = turn_of task (turns_of task count standing)

-- a job before its first turn, and after so many
abbrev pub fresh_job : JobTask → Standing
fresh_job task = Runs 0 0 (schedule task.bouquet)

abbrev pub job_after : JobTask → (count : ℕ) → Standing
job_after task count = turns_of task count (fresh_job task)
