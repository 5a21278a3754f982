-- What one execution of a run leads to.
use Rattle.std.specs.Prelude.{◌≡◌, Bool, true, ℕ, ℤ, ◌+◌, nat_le, nat_lt, List, [], length, Option, None, Some, Result, Ok, Err, if◌then◌else◌}
use Rattle.row_stack.specs.declared.space.Space.{Space}
use Rattle.query_block.specs.Blocks.{BlockTree}
use Rattle.query_block.specs.Meaning.{meaning_of}
use Rattle.db_catalog.specs.Database.{DatabaseState}
use Rattle.exec_pipe.specs.Executions.{AreRowsOf}
use Rattle.exec_pipe.specs.Runs.{spends}
use Rattle.bouquet_type.specs.Cursor.{AttemptTree}
use Rattle.bouquet_type.specs.Runs.{RunEnd}
use Rattle.bouquet_type.specs.Reports.{told_end}
use Rattle.bouquet_type.specs.declared.report.Report.{Report}
use Rattle.bouquet_type.specs.declared.report.RunFault.{RunFault}
use Rattle.bouquet_type.specs.declared.report.RunFault.TheVariants.{WorkLimit, NoMemory}

-- the run is past the most work; or it ends; or it goes on, and so much is spent
pub data Coming : Type 0 where
  Passes : Coming
  Ends : RunEnd → Coming
  GoesOn : (spent : ℕ) → Coming

-- whether a plan of this work is done under a budget, or without one
abbrev pub is_done : (budget : Option ℕ) → (work : ℕ) → Bool
is_done None work = true
is_done (Some budget) work = nat_le work budget

-- what comes of the execution of this number, from 1, of a plan of this work, where so much was spent before
abbrev pub coming : (most spent runs work : ℕ) → AttemptTree → Coming
coming most spent runs work step =
    if nat_lt most (spent + spends step.budget work) then Passes
    else (if is_done step.budget work then Ends (record { plan = step.plan; total = spent + work; runs = runs; contour = step.contour })
    else GoesOn (spent + spends step.budget work))

-- a step tells what comes: how many rows the block means, which are there, and what all executions paid together; or that the
-- run goes on, without a row; or why it is refused, without a row. Out of memory nothing is told
abbrev pub TellsStep : DatabaseState → BlockTree → (most : ℕ) → Coming → (spent : ℕ) → (results : List (List ℤ)) → Result (Option Report) RunFault → Type 0
TellsStep database block most comes spent results (Ok (Some report)) =
    (comes ≡ Ends (told_end report)) × (spent ≡ report.work) × (report.rows ≡ length (meaning_of database.tables block)) × AreRowsOf database block results
TellsStep database block most comes spent results (Ok None) = (comes ≡ GoesOn spent) × (results ≡ [])
TellsStep database block most comes spent results (Err (WorkLimit told)) =
    (comes ≡ Passes) × (told ≡ most) × (spent ≡ most) × (results ≡ [])
TellsStep database block most comes spent results (Err NoMemory) = results ≡ []

-- this end is told of rows that are there, and they stay; or memory ran out, and they are released
abbrev pub TellsEnd : RunEnd → (before after : Space) → Result Report RunFault → Type 0
TellsEnd end before after (Ok report) =
    (told_end report ≡ end) × (report.rows ≡ length before.result.rows) × (after.result.rows ≡ before.result.rows)
TellsEnd end before after (Err fault) = (fault ≡ NoMemory) × (after.result.rows ≡ [])
