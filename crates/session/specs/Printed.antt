-- The texts that statements print.
use Rattle.std.specs.Prelude.{Bool, true, false, ℕ, ◌+◌, ◌-◌, List, [], ◌++◌, drop, length, slice_get, slice_index_or, codes, decimal}
use Rattle.std.specs.List.{flat_map}
use Rattle.std.specs.Option.{option_map_or}
use Rattle.query_block.specs.Blocks.{BlockTree}
use Rattle.query_block.specs.Meaning.{meaning_of}
use Rattle.plan_tree.specs.Plans.{PlanTree, Scan}
use Rattle.plan_tree.specs.Text.{plan_text_of}
use Rattle.db_catalog.specs.Database.{DatabaseState}
use Rattle.bouquet_type.specs.Trees.{BouquetTree}
use Rattle.bouquet_type.specs.Runs.{RunEnd}
use Rattle.audit_run.specs.Audits.{AuditTree}
use Rattle.bouquet_type.specs.Schedule.{final_plan, schedule}
use Rattle.bouquet_type.specs.Cursor.{first_attempt}
use Rattle.learned_run.specs.declared.learned.Skip.{Skip}
use Rattle.turns.specs.Standing.{JobTask, Standing, Runs, Ended, Past, Lost}
use Rattle.turns.specs.Jobs.{JobTree}
use Rattle.turns.specs.declared.turn.Turn.{Turn}
use Rattle.result_text.specs.Combined.{printed}
use Rattle.workspace.specs.Printed.{header_of, point_text}

-- the line below the rows of an answer: how many there are, and how the run of the bouquet ended
abbrev pub report_line : (rows : ℕ) → RunEnd → List ℕ
report_line rows end =
    codes "-- rows=" ++ (decimal rows ++ (codes " work=" ++ (decimal end.total ++ (codes " runs=" ++ (decimal end.runs
    ++ (codes " contour=" ++ (decimal end.contour ++ (codes " plan=" ++ (plan_text_of end.plan ++ codes "\n")))))))))

-- a plan of a contour of a bouquet, both by their places, from 1
abbrev pub plan_on : BouquetTree → (contour place : ℕ) → PlanTree
plan_on bouquet contour place =
    slice_index_or (slice_index_or bouquet.contours (contour - 1) (record { cost = 0; plans = [] })).plans (place - 1) (Scan 0)

-- what a block prints: its rows, and the line below them
abbrev pub answer_text : DatabaseState → BlockTree → RunEnd → List ℕ
answer_text database block end =
    printed (header_of database block) database.tables block
    ++ report_line (length (meaning_of database.tables block)) end

-- an execution that a run skips: its contour, its plan, and the point that shows why
abbrev pub skip_line : BouquetTree → Skip → List ℕ
skip_line bouquet skip =
    codes "-- skip contour=" ++ (decimal skip.contour ++ (codes " plan=" ++ (plan_text_of (plan_on bouquet skip.contour skip.plan)
    ++ (codes " point=" ++ (point_text skip.point ++ codes "\n")))))

-- what a block prints by a run that learns: its rows, what the run skips, and the line below them
abbrev pub learned_text : DatabaseState → BouquetTree → BlockTree → List Skip → RunEnd → List ℕ
learned_text database bouquet block skips end =
    printed (header_of database block) database.tables block
    ++ (flat_map (skip_line bouquet) skips ++ report_line (length (meaning_of database.tables block)) end)

-- the plan of the execution at this place of a bouquet's schedule, from 1: behind those under budgets the final plan
abbrev pub executed_plan : BouquetTree → (place : ℕ) → PlanTree
executed_plan bouquet place = (first_attempt (drop (place - 1) (schedule bouquet)) (final_plan bouquet)).plan

-- a turn that a job of one of these bouquets took: the job, from 1, the contour, the plan, and what the job has spent after it
abbrev pub turn_line : List BouquetTree → Turn → List ℕ
turn_line bouquets turn =
    codes "-- turn job=" ++ (decimal (turn.job + 1) ++ (codes " contour=" ++ (decimal turn.contour
    ++ (codes " plan=" ++ (option_map_or (λ (bouquet : BouquetTree). plan_text_of (executed_plan bouquet turn.place)) (slice_get bouquets turn.job) []
    ++ (codes " spent=" ++ (decimal turn.spent ++ codes "\n")))))))

-- the answer of a job that has ended, and nothing of another one
abbrev pub standing_text : JobTask → Standing → List ℕ
standing_text task (Ended end) = answer_text task.database task.block end
standing_text task (Runs place spent left) = []
standing_text task Past = []
standing_text task Lost = []

abbrev pub job_text : JobTree → List ℕ
job_text job = standing_text job.task job.standing

abbrev pub yes_or_no : Bool → List ℕ
yes_or_no true = codes "yes"
yes_or_no false = codes "no"

-- what an audit prints
abbrev pub audit_line : AuditTree → List ℕ
audit_line audit =
    codes "-- audit point=" ++ (point_text audit.point ++ (codes " plans=" ++ (decimal audit.plans ++ (codes " below=" ++ (yes_or_no audit.below
    ++ (codes " a=" ++ (decimal audit.a ++ (codes " b=" ++ (decimal audit.b ++ (codes " cheapest=" ++ (decimal audit.cheapest
    ++ (codes " r=" ++ (decimal audit.r ++ (codes " work=" ++ (decimal audit.work ++ codes "\n")))))))))))))))
