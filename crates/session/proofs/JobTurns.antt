-- The turns that jobs take, and what they print.
use Rattle.std.proofs.Common.{◌≡◌, ◌∙◌, ℕ, suc, ◌+◌, ◌<◌, List, [], ◌∷◌, Option, Some, None, length, map, refl, sym, ap, subst, arith}
use Rattle.std.specs.Prelude.{All, slice_get}
use Rattle.std.proofs.lemmas.List.{length-map}
use Rattle.std.proofs.lemmas.List.Elements.{All-nil, All-cons, All-append}
use Rattle.std.proofs.lemmas.Option.{slice_get_within}
use Rattle.db_catalog.specs.Database.{DatabaseState}
use Rattle.bouquet_type.specs.Trees.{bouquet_tree}
use Rattle.turns.specs.Standing.{JobTask, Standing, Runs, Ended, Past, Lost}
use Rattle.turns.specs.Jobs.{JobShape, JobTree, job_tree, task_of}
use Rattle.turns.specs.Taking.{jobs_turned, turn_told, turn_told_of, turns_told}
use Rattle.session.specs.Turns.{fresh_jobs}
use Rattle.session.specs.Uses.{IsTurnOf, bouquets_of, task_of_use}
use Rattle.session.specs.declared.uses.Used.{Used}

pub turned-length : (numbers : List ℕ) (first : ℕ) (jobs : List JobTree) → length (jobs_turned numbers first jobs) ≡ length jobs
turned-length numbers first [] = refl
turned-length numbers first (job ∷ more) = ap (λ n. suc n) (turned-length numbers (first + 1) more)

one-told : (count number : ℕ) (task : JobTask) (standing : Standing) → number < count → All (IsTurnOf count) (turn_told number task standing)
one-told count number task (Runs place spent left) there = All-cons (IsTurnOf count) _ [] (record { job = there; place = omega arith }) (All-nil (IsTurnOf count))
one-told count number task (Ended end) there = All-nil (IsTurnOf count)
one-told count number task Past there = All-nil (IsTurnOf count)
one-told count number task Lost there = All-nil (IsTurnOf count)

told-of : (number : ℕ) (jobs : List JobTree) (found : Option JobTree) → slice_get jobs number ≡ found → All (IsTurnOf (length jobs)) (turn_told_of number found)
told-of number jobs None is = All-nil (IsTurnOf (length jobs))
told-of number jobs (Some job) is = one-told (length jobs) number job.task job.standing (slice_get_within jobs number job is)

-- each turn that is told is of one of the jobs
pub told-are : (numbers : List ℕ) (jobs : List JobTree) → All (IsTurnOf (length jobs)) (turns_told numbers jobs)
told-are [] jobs = All-nil (IsTurnOf (length jobs))
told-are (number ∷ more) jobs =
    let next = jobs_turned (number ∷ []) 0 jobs in
    All-append (IsTurnOf (length jobs)) (turn_told_of number (slice_get jobs number)) (turns_told more next)
    (told-of number jobs (slice_get jobs number) refl)
    (subst (λ count. All (IsTurnOf count) (turns_told more next)) (turned-length (number ∷ []) 0 jobs) (told-are more next))

-- jobs before their first turns are as many as their tasks, and have them
pub fresh-count : (jobs : List JobTree) (all : List Used) (ask : Used → JobTask) → jobs ≡ fresh_jobs (map ask all) → length jobs ≡ length all
fresh-count jobs all ask is = ap (λ (l : List JobTree). length l) is ∙ length-map (map ask all) _ ∙ length-map all ask

tasks-fresh : (tasks : List JobTask) → map (λ (job : JobTree). job.task) (fresh_jobs tasks) ≡ tasks
tasks-fresh [] = refl
tasks-fresh (task ∷ more) = ap (λ l. task ∷ l) (tasks-fresh more)

tasks-seen : (jobs : List JobShape) → map (λ (job : JobTree). job.task) (map job_tree jobs) ≡ map task_of jobs
tasks-seen [] = refl
tasks-seen (job ∷ more) = ap (λ l. task_of job ∷ l) (tasks-seen more)

pub fresh-tasks : (jobs : List JobShape) (tasks : List JobTask) → map job_tree jobs ≡ fresh_jobs tasks → map task_of jobs ≡ tasks
fresh-tasks jobs tasks is = sym (tasks-seen jobs) ∙ ap (map (λ (job : JobTree). job.task)) is ∙ tasks-fresh tasks

-- the bouquets that are asked
pub bouquets-asked : (max_work : ℕ) (database : DatabaseState) (all : List Used) → map (λ (task : JobTask). task.bouquet) (map (task_of_use max_work database) all) ≡ bouquets_of all
bouquets-asked max_work database [] = refl
bouquets-asked max_work database (used ∷ more) = ap (λ l. bouquet_tree used.bouquet.now ∷ l) (bouquets-asked max_work database more)
