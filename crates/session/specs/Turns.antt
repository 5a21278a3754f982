-- What comes of TURNS.
use Rattle.std.specs.Prelude.{ℕ, ◌-◌, ◌||◌, nat_eq, nat_lt, Bool, true, false, List, [], ◌∷◌, ◌++◌, length, map, option_map, Option, Some, None, if◌then◌else◌}
use Rattle.std.specs.List.{find, flat_map, list_any}
use Rattle.sql_values.specs.Steps.{Checked, pure, ◌>>=◌, ◌>>◌}
use Rattle.sql_values.specs.Limits.{max_jobs}
use Rattle.sql_parse.specs.declared.tree.RunDef.{RunDef}
use Rattle.sql_parse.specs.declared.tree.TurnsDef.{TurnsDef}
use Rattle.turns.specs.Standing.{JobTask, Standing, Runs, Ended, Past, Lost, fresh_job}
use Rattle.turns.specs.Jobs.{JobTree}
use Rattle.turns.specs.Taking.{jobs_turned, numbers_to_end, turns_told}
use Rattle.turns.specs.declared.turn.Turn.{Turn}
use Rattle.workspace.specs.Outcome.{Outcome, Prints, Refuses, outcome_of, unless}
use Rattle.workspace.specs.World.{World}
use Rattle.workspace.specs.declared.refusal.Refusal.{Refusal}
use Rattle.workspace.specs.declared.refusal.Refusal.TheVariants as refusal
use Rattle.session.specs.Answered.{used_due}
use Rattle.session.specs.Printed.{job_text, turn_line}

-- what is asked of the jobs of these bouquets, each on its block; the first that can't be used with its values refuses all
abbrev pub tasks_due : (max_work : ℕ) → World → List RunDef → Checked Refusal (List JobTask)
tasks_due max_work world [] = pure []
tasks_due max_work world (run ∷ more) = do
  (bouquet, block) ← used_due world run.name run.values
  tasks ← tasks_due max_work world more
  pure (record { database = world.database; bouquet = bouquet; block = block; most = max_work } ∷ tasks)

-- jobs before their first turns
abbrev pub fresh_jobs : List JobTask → List JobTree
fresh_jobs tasks = map (λ task. record { task = task; standing = fresh_job task }) tasks

-- they take turns by these numbers, from 1, and then round by round until none runs: how they stand after the first and after all, and
-- the turns
abbrev pub numbers_from_0 : (by : List ℕ) → List ℕ
numbers_from_0 by = map (λ n. n - 1) by

abbrev pub jobs_by : List JobTask → (by : List ℕ) → List JobTree
jobs_by tasks by = jobs_turned (numbers_from_0 by) 0 (fresh_jobs tasks)

abbrev pub jobs_ended : List JobTask → (by : List ℕ) → List JobTree
jobs_ended tasks by = let jobs = jobs_by tasks by in jobs_turned (numbers_to_end jobs) 0 jobs

abbrev pub turns_taken : List JobTask → (by : List ℕ) → List Turn
turns_taken tasks by =
    let jobs = jobs_by tasks by in
    turns_told (numbers_from_0 by) (fresh_jobs tasks) ++ turns_told (numbers_to_end jobs) jobs

-- whether a job is past the most work
abbrev is_past_standing : Standing → Bool
is_past_standing (Runs place spent left) = false
is_past_standing (Ended end) = false
is_past_standing Past = true
is_past_standing Lost = false

abbrev pub is_past : JobTree → Bool
is_past job = is_past_standing job.standing

-- a line for each turn, and the answer of each job, at no cost: no book has their work. Where one of them is past the most work, that
-- refuses all
abbrev pub turns_answer : (max_work : ℕ) → World → (by : List ℕ) → List JobTask → Outcome
turns_answer max_work world by tasks =
    let jobs = jobs_ended tasks by in
    if list_any is_past jobs then Refuses (refusal.PastWork max_work false)
    else Prints (flat_map (turn_line (map (λ task. task.bouquet) tasks)) (turns_taken tasks by) ++ flat_map job_text jobs) 0 world

-- too many bouquets; and the first number that isn't that of one of so many jobs, from 1
abbrev pub jobs_refusal : (count : ℕ) → Option Refusal
jobs_refusal count = if nat_lt max_jobs count then Some (refusal.TooManyJobs count) else None

abbrev pub turn_refusal : (count : ℕ) → (by : List ℕ) → Option Refusal
turn_refusal count by = option_map (λ number. refusal.NoTurn number) (find (λ number. nat_eq number 0 || nat_lt count number) by)

abbrev pub turns_outcome : (max_work : ℕ) → World → TurnsDef → Outcome
turns_outcome max_work world turns = outcome_of do
  unless (λ why. why) (jobs_refusal (length turns.uses))
  tasks ← tasks_due max_work world turns.uses
  unless (λ why. why) (turn_refusal (length turns.uses) turns.by)
  pure (turns_answer max_work world turns.by tasks)
