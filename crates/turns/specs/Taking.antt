-- The turns of several jobs.
use Rattle.std.specs.Prelude.{◌≡◌, ◌≢◌, ◌⊎◌, ℕ, zero, suc, ◌+◌, nat_eq, max, Bool, true, false, List, [], ◌∷◌, ◌++◌, All, length, map, set, slice_get, option_to_list, if◌then◌else◌, Option, None, Some, Result, Ok, Err}
use Rattle.bouquet_type.specs.Schedule.{final_plan}
use Rattle.bouquet_type.specs.Cursor.{first_attempt}
use Rattle.bouquet_run.specs.Coming.{Coming, Passes, Ends, GoesOn}
use Rattle.turns.specs.Standing.{JobTask, Standing, Runs, Ended, Past, Lost, job_after, next_coming, turns_of}
use Rattle.turns.specs.Jobs.{JobShape, JobTree, job_tree}
use Rattle.turns.specs.declared.turn.Turn.{Turn}

-- a job after so many turns more, and one that memory ran out for
abbrev pub job_turned : (count : ℕ) → JobTree → JobTree
job_turned count job = record { task = job.task; standing = turns_of job.task count job.standing }

abbrev pub job_lost : JobTree → JobTree
job_lost job = record { task = job.task; standing = Lost }

-- how often a number is among some
abbrev pub named : (number : ℕ) → List ℕ → ℕ
named number [] = 0
named number (other ∷ more) = (if nat_eq other number then 1 else 0) + named number more

-- jobs after turns of these numbers, where the first job has this number: each took as many as it is named
abbrev pub jobs_turned : List ℕ → (first : ℕ) → List JobTree → List JobTree
jobs_turned numbers first [] = []
jobs_turned numbers first (job ∷ more) = job_turned (named first numbers) job ∷ jobs_turned numbers (first + 1) more

-- what a job has spent after an execution of which this came
abbrev pub spent_after : (most : ℕ) → Coming → ℕ
spent_after most Passes = most
spent_after most (Ends end) = end.total
spent_after most (GoesOn spent) = spent

-- what is told of the turn that a job of this number takes next: nothing where it doesn't run
abbrev pub turn_told : (number : ℕ) → JobTask → Standing → List Turn
turn_told number task (Runs place spent left) = record {
  job = number;
  contour = (first_attempt left (final_plan task.bouquet)).contour;
  place = place + 1;
  spent = spent_after task.most (next_coming task place spent left);
} ∷ []
turn_told number task (Ended end) = []
turn_told number task Past = []
turn_told number task Lost = []

abbrev pub turn_told_of : (number : ℕ) → Option JobTree → List Turn
turn_told_of number None = []
turn_told_of number (Some job) = turn_told number job.task job.standing

-- what is told of turns of these numbers, one after another
abbrev pub turns_told : List ℕ → List JobTree → List Turn
turns_told [] jobs = []
turns_told (number ∷ more) jobs = turn_told_of number (slice_get jobs number) ++ turns_told more (jobs_turned (number ∷ []) 0 jobs)

-- whether a job runs; and whether memory may run out at a turn of it: one that is answered or limited has nothing to do
abbrev pub is_running : Standing → Bool
is_running (Runs place spent left) = true
is_running (Ended end) = false
is_running Past = false
is_running Lost = false

abbrev pub may_stop : Standing → Bool
may_stop (Runs place spent left) = true
may_stop (Ended end) = false
may_stop Past = false
may_stop Lost = true

-- a turn was taken of a job that isn't lost, and is told where it runs; or memory ran out, and it is as before, or lost
abbrev pub TakesTurn : {E : Type 0} → (number : ℕ) → (old new : JobTree) → Result (Option Turn) E → Type 0
TakesTurn number old new (Ok turn) =
    (new ≡ job_turned 1 old) × (option_to_list turn ≡ turn_told number old.task old.standing) × (old.standing ≢ Lost)
TakesTurn number old new (Err e) = (may_stop old.standing ≡ true) × ((new ≡ old) ⊎ (new ≡ job_lost old))

-- the jobs that don't run stay as they are, to what they spent and to their rows
abbrev pub IdleStay : (old new : List JobShape) → Type 0
IdleStay old new =
    (number : ℕ) (job : JobShape) → slice_get old number ≡ Some job → is_running (job_tree job).standing ≡ false
    → slice_get new number ≡ Some job

-- none of these numbers is that of a lost job
abbrev pub NamesNoLost : List ℕ → List JobTree → Type 0
NamesNoLost numbers jobs = All (λ number. (job : JobTree) → slice_get jobs number ≡ Some job → job.standing ≢ Lost) numbers

-- turns of these numbers were taken, and are told behind what was told before
pub record TakesAll (numbers : List ℕ) (old new : List JobTree) (told told' : List Turn) : Type 0 where
  pub turned : new ≡ jobs_turned numbers 0 old
  pub tells : told' ≡ told ++ turns_told numbers old
  pub unbroken : NamesNoLost numbers old

-- the numbers of the jobs that took turns
abbrev pub numbers_told : List Turn → List ℕ
numbers_told told = map (λ turn. turn.job) told

-- and each of them is told
pub record TakesRunning (numbers : List ℕ) (old new : List JobTree) (told told' : List Turn) : Type 0 where
  pub takes : TakesAll numbers old new told told'
  pub told_all : numbers_told told' ≡ numbers_told told ++ numbers

-- memory ran out at the turn of this number, which has something to do or is lost: all jobs are as before, or that one is lost
pub record StopsAtTurn (number : ℕ) (old new : List JobTree) : Type 0 where
  pub job : JobTree
  pub there : slice_get old number ≡ Some job
  pub may : may_stop job.standing ≡ true
  pub jobs : (new ≡ old) ⊎ (new ≡ set old number (job_lost job))

-- memory ran out at one of these numbers: the turns of those before it were taken, and no others
pub record StopsAmong (numbers : List ℕ) (old new : List JobTree) : Type 0 where
  pub before : List ℕ
  pub number : ℕ
  pub after : List ℕ
  pub split : numbers ≡ before ++ number ∷ after
  pub stops : StopsAtTurn number (jobs_turned before 0 old) new

-- each job that stood where its first turns lead stands where those lead with as many more as it is named
abbrev pub EachStands : List ℕ → (old new : List JobTree) → Type 0
EachStands numbers old new =
    (number count : ℕ) (job : JobTree) → slice_get old number ≡ Some job → job.standing ≡ job_after job.task count
    → slice_get new number ≡ Some (record { task = job.task; standing = job_after job.task (count + named number numbers) })

-- how many turns a job may take at the most
abbrev pub turns_left : Standing → ℕ
turns_left (Runs place spent left) = 1 + length left
turns_left (Ended end) = 0
turns_left Past = 0
turns_left Lost = 0

-- the most of those
abbrev pub rounds_left : List JobTree → ℕ
rounds_left [] = 0
rounds_left (job ∷ more) = max (turns_left job.standing) (rounds_left more)

-- the numbers of the jobs that run, where the first job has this number
abbrev pub numbers_running : (first : ℕ) → List JobTree → List ℕ
numbers_running first [] = []
numbers_running first (job ∷ more) =
    if is_running job.standing then first ∷ numbers_running (first + 1) more else numbers_running (first + 1) more

-- that of the job of this number, if it runs
abbrev pub number_of : (number : ℕ) → Option JobTree → List ℕ
number_of number None = []
number_of number (Some job) = numbers_running number (job ∷ [])

abbrev pub running_at : (number : ℕ) → List JobTree → List ℕ
running_at number jobs = number_of number (slice_get jobs number)

-- the numbers of so many rounds: in each, every job that runs takes a turn, in order
abbrev pub numbers_of_rounds : (count : ℕ) → List JobTree → List ℕ
numbers_of_rounds zero jobs = []
numbers_of_rounds (suc count) jobs =
    let numbers = numbers_running 0 jobs in numbers ++ numbers_of_rounds count (jobs_turned numbers 0 jobs)

-- those of as many rounds as there are until no job runs
abbrev pub numbers_to_end : List JobTree → List ℕ
numbers_to_end jobs = numbers_of_rounds (rounds_left jobs) jobs
