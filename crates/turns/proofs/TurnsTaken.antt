-- Turns of some numbers, one after another.
use Rattle.std.proofs.Common.{◌≡◌, ◌≢◌, ◌∙◌, ◌⊎◌, inl, inr, ℕ, zero, suc, ◌+◌, ◌<◌, ◌++◌, List, [], ◌∷◌, length, get_or, map, set, refl, ap, sym, subst, arith}
use Rattle.std.specs.Prelude.{IfSome, OnErr, Option, Some, None, Result, Ok, Err, option_map, option_to_list, slice_get, true}
use Rattle.std.proofs.lemmas.List.{append_assoc, append-nil, map-set, set-get_or}
use Rattle.std.proofs.lemmas.Option.{get_or_from_slice_get, slice_get-get_or, slice_get-map}
use Rattle.std.proofs.lemmas.List.Elements.{All-nil, All-cons, All-append, All-weaker}
use Rattle.turns.specs.Standing.{JobTask, Standing, Runs, Ended, Past, Lost, job_after, turns_of, fresh_job}
use Rattle.turns.specs.Jobs.{JobShape, JobTree, job_tree, task_of}
use Rattle.turns.specs.Taking.{EachStands, NamesNoLost, StopsAmong, StopsAtTurn, TakesAll, is_running, job_lost, job_turned, jobs_turned, may_stop, named, turn_told, turn_told_of, turns_told}
use Rattle.turns.specs.declared.turn.Turn.{Turn}
use Rattle.turns.proofs.JobsTurned.{stays-lost, turned-at, turned-none, turned-one, turned-turned, turns-add}

-- what is told of the turns of two lists of numbers
told-append : (xs ys : List ℕ) (jobs : List JobTree) → turns_told (xs ++ ys) jobs ≡ turns_told xs jobs ++ turns_told ys (jobs_turned xs 0 jobs)
told-append [] ys jobs = ap (turns_told ys) (sym (turned-none 0 jobs))
told-append (x ∷ xs) ys jobs =
    let here = turn_told_of x (slice_get jobs x) in
    let on = jobs_turned (x ∷ []) 0 jobs in
    ap (λ more. here ++ more) (told-append xs ys on ∙ ap (λ all. turns_told xs on ++ turns_told ys all) (turned-turned (x ∷ []) xs 0 jobs))
    ∙ sym (append_assoc here (turns_told xs on) (turns_told ys (jobs_turned (x ∷ xs) 0 jobs)))

abbrev IsNotLost : List JobTree → ℕ → Type 0
IsNotLost jobs number = (job : JobTree) → slice_get jobs number ≡ Some job → job.standing ≢ Lost

-- who isn't lost after some turns wasn't before
not-lost-before : (xs : List ℕ) (jobs : List JobTree) (number : ℕ) → IsNotLost (jobs_turned xs 0 jobs) number → IsNotLost jobs number
not-lost-before xs jobs number stands = λ job there lost.
    let count = named (0 + number) xs in
    stands (job_turned count job) (turned-at xs 0 number jobs job there)
    (ap (turns_of job.task count) lost ∙ stays-lost job.task count)

-- turns of some numbers behind those of others
pub takes-on : (xs ys : List ℕ) (old at new : List JobTree) (told told' told'' : List Turn) → TakesAll xs old at told told' → TakesAll ys at new told' told'' → TakesAll (xs ++ ys) old new told told''
takes-on xs ys old at new told told' told'' first more =
    let between = jobs_turned xs 0 old in
    let later : NamesNoLost ys between = subst (NamesNoLost ys) first.turned more.unbroken in
    record {
      turned = more.turned ∙ ap (jobs_turned ys 0) first.turned ∙ turned-turned xs ys 0 old;
      tells = more.tells ∙ ap (λ all. all ++ turns_told ys at) first.tells ∙ append_assoc told (turns_told xs old) (turns_told ys at)
          ∙ ap (λ (jobs : List JobTree). told ++ (turns_told xs old ++ turns_told ys jobs)) first.turned ∙ ap (λ all. told ++ all) (sym (told-append xs ys old));
      unbroken = All-append (IsNotLost old) xs ys first.unbroken (All-weaker (IsNotLost between) (IsNotLost old) (not-lost-before xs old) ys later);
    }

pub takes-none : (jobs : List JobTree) (told : List Turn) → TakesAll [] jobs jobs told told
takes-none jobs told = record { turned = sym (turned-none 0 jobs); tells = sym (append-nil told); unbroken = All-nil (IsNotLost jobs) }

-- a stop behind some turns
pub stops-on : (xs ys zs : List ℕ) (old at new : List JobTree) → jobs_turned xs 0 old ≡ at → StopsAmong ys at new → StopsAmong (xs ++ (ys ++ zs)) old new
stops-on xs ys zs old at new turned stop = record {
  before = xs ++ stop.before;
  number = stop.number;
  after = stop.after ++ zs;
  split = ap (λ all. xs ++ (all ++ zs)) stop.split ∙ ap (λ all. xs ++ all) (append_assoc stop.before (stop.number ∷ stop.after) zs)
      ∙ sym (append_assoc xs stop.before (stop.number ∷ (stop.after ++ zs)));
  stops = subst (λ (jobs : List JobTree). StopsAtTurn stop.number jobs new)
      (sym (ap (jobs_turned stop.before 0) turned) ∙ turned-turned xs stop.before 0 old) stop.stops;
}

-- how the job that was found stands
abbrev standing_found : Option JobTree → Standing
standing_found None = Lost
standing_found (Some job) = job.standing

-- the turn of one job
pub takes-one : (number : ℕ) (jobs : List JobTree) (job : JobTree) (told told' : List Turn) → slice_get jobs number ≡ Some job
    → told' ≡ told ++ turn_told number job.task job.standing → job.standing ≢ Lost
    → TakesAll (number ∷ []) jobs (set jobs number (job_turned 1 job)) told told'
takes-one number jobs job told told' there tells stands =
    let here : number ≡ 0 + number = omega arith in
    record {
      turned = sym (ap (λ n. jobs_turned (n ∷ []) 0 jobs) here ∙ turned-one 0 number jobs job there);
      tells = tells ∙ ap (λ all. told ++ all) (ap (turn_told_of number) (sym there) ∙ sym (append-nil (turn_told_of number (slice_get jobs number))));
      unbroken = All-cons (IsNotLost jobs) number [] (λ other at lost. stands (ap standing_found (sym there ∙ at) ∙ lost)) (All-nil (IsNotLost jobs));
    }

-- each job stands where its turns lead
pub each-stands : (numbers : List ℕ) (jobs : List JobTree) → EachStands numbers jobs (jobs_turned numbers 0 jobs)
each-stands numbers jobs = λ number count job there at.
    let here : 0 + number ≡ number = omega arith in
    let named_so : named (0 + number) numbers + count ≡ count + named number numbers = omega (arith, ap (λ n. named n numbers) here) in
    turned-at numbers 0 number jobs job there
    ∙ ap (λ (standing : Standing). Some (record { task = job.task; standing = standing }))
    (ap (turns_of job.task (named (0 + number) numbers)) at ∙ turns-add job.task count (named (0 + number) numbers) (fresh_job job.task) ∙ ap (job_after job.task) named_so)

-- what holds, holds on an error
pub on-err : {T E P : Type 0} (r : Result T E) → P → OnErr r P
on-err (Ok t) holds = tt
on-err (Err e) holds = holds

-- the job of a number
pub job-at : (jobs : List JobTree) (number : ℕ) → number < length jobs → (job : JobTree) × (slice_get jobs number ≡ Some job)
job-at [] number there = absurd (omega (arith, there))
job-at (job ∷ more) zero there = (job, refl)
job-at (job ∷ more) (suc number) there = job-at more number (omega (arith, there))

set-same : (jobs : List JobTree) (number : ℕ) (job : JobTree) → slice_get jobs number ≡ Some job → set jobs number job ≡ jobs
set-same jobs number job there = ap (set jobs number) (sym (get_or_from_slice_get jobs number job job there)) ∙ set-get_or jobs number job

-- a stop at the turn of one job
pub stops-at : (number : ℕ) (jobs : List JobTree) (job one : JobTree) → slice_get jobs number ≡ Some job → may_stop job.standing ≡ true → (one ≡ job) ⊎ (one ≡ job_lost job)
    → StopsAtTurn number jobs (set jobs number one)
stops-at number jobs job one there may (inl same) = record { job = job; there = there; may = may; jobs = inl (ap (set jobs number) same ∙ set-same jobs number job there) }
stops-at number jobs job one there may (inr lost) = record { job = job; there = there; may = may; jobs = inr (ap (set jobs number) lost) }

runs-may : (standing : Standing) → is_running standing ≡ true → may_stop standing ≡ true
runs-may (Runs place spent left) runs = refl
runs-may (Ended end) runs = runs
runs-may Past runs = runs
runs-may Lost runs = refl

-- only a turn of a job that runs is told
pub told-runs : {P : Type 0} (number : ℕ) (task : JobTask) (standing : Standing) (turn : Option Turn) → option_to_list turn ≡ turn_told number task standing
    → (is_running standing ≡ true → P) → IfSome turn (λ _. P)
told-runs number task standing None told room = tt
told-runs number task (Runs place spent left) (Some turn) told room = room refl
told-runs number task (Ended end) (Some turn) told room = absurd cc
told-runs number task Past (Some turn) told room = absurd cc
told-runs number task Lost (Some turn) told room = absurd cc

pub stops-one : (number : ℕ) (old new : List JobTree) → StopsAtTurn number old new → StopsAmong (number ∷ []) old new
stops-one number old new stops = record {
  before = [];
  number = number;
  after = [];
  split = refl;
  stops = subst (λ jobs. StopsAtTurn number jobs new) (sym (turned-none 0 old)) stops;
}

pub stops-before : (number : ℕ) (jobs : List JobTree) (job : JobTree) → slice_get jobs number ≡ Some job → is_running job.standing ≡ true → StopsAmong (number ∷ []) jobs jobs
stops-before number jobs job there runs = stops-one number jobs jobs (record { job = job; there = there; may = runs-may job.standing runs; jobs = inl refl })

-- no job is asked anything else
abbrev pub tasks_of : List JobTree → List JobTask
tasks_of jobs = map (λ job. job.task) jobs

pub shape-tasks : (jobs : List JobShape) → map task_of jobs ≡ tasks_of (map job_tree jobs)
shape-tasks [] = refl
shape-tasks (job ∷ more) = ap (λ others. task_of job ∷ others) (shape-tasks more)

pub same-tasks : (numbers : List ℕ) (first : ℕ) (jobs : List JobTree) → tasks_of (jobs_turned numbers first jobs) ≡ tasks_of jobs
same-tasks numbers first [] = refl
same-tasks numbers first (job ∷ more) = ap (λ others. job.task ∷ others) (same-tasks numbers (first + 1) more)

tasks-at : (number : ℕ) (old new : List JobTree) → StopsAtTurn number old new → tasks_of new ≡ tasks_of old
tasks-at number old new stops =
    let task : JobTree → JobTask = λ job. job.task in
    elim stops.jobs [
      | inl same ↦ ap tasks_of same
      | inr lost ↦
          ap tasks_of lost ∙ map-set task old number (job_lost stops.job) ∙ sym (map-set task old number stops.job)
          ∙ ap tasks_of (set-same old number stops.job stops.there)
    ]

pub tasks-among : (numbers : List ℕ) (old new : List JobTree) → StopsAmong numbers old new → tasks_of new ≡ tasks_of old
tasks-among numbers old new stop = tasks-at stop.number (jobs_turned stop.before 0 old) new stop.stops ∙ same-tasks stop.before 0 old

-- the job of a number, as a tree
pub job-tree-at : (jobs : List JobShape) (number : ℕ) (job : JobShape) → number < length jobs → slice_get (map job_tree jobs) number ≡ Some (job_tree (get_or jobs number job))
job-tree-at jobs number job there = slice_get-map job_tree jobs number ∙ ap (option_map job_tree) (slice_get-get_or jobs number job there)
