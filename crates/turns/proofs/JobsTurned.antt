-- Jobs after turns of some numbers.
use Rattle.std.proofs.Common.{◌≡◌, ◌∙◌, ap₂, ℕ, zero, suc, ◌+◌, ◌<◌, ◌++◌, List, [], ◌∷◌, set, true, false, nat_eq, refl, ap, arith}
use Rattle.std.specs.Prelude.{Option, Some, None, slice_get, unwrap_or}
use Rattle.std.proofs.lemmas.Bool.{eq-eqb, ne_eqb}
use Rattle.turns.specs.Standing.{JobTask, Standing, Lost, turn_of, turns_of}
use Rattle.turns.specs.Jobs.{JobTree}
use Rattle.turns.specs.Taking.{job_turned, jobs_turned, named}

-- turns add up
pub turns-add : (task : JobTask) (count more : ℕ) (standing : Standing) → turns_of task more (turns_of task count standing) ≡ turns_of task (more + count) standing
turns-add task count zero standing = let same : count ≡ 0 + count = omega arith in ap (λ n. turns_of task n standing) same
turns-add task count (suc more) standing =
    let same : suc (more + count) ≡ suc more + count = omega arith in
    ap (turn_of task) (turns-add task count more standing) ∙ ap (λ n. turns_of task n standing) same

-- a lost job stays lost
pub stays-lost : (task : JobTask) (count : ℕ) → turns_of task count Lost ≡ Lost
stays-lost task zero = refl
stays-lost task (suc count) = ap (turn_of task) (stays-lost task count)

named-append : (number : ℕ) (xs ys : List ℕ) → named number (xs ++ ys) ≡ named number xs + named number ys
named-append number [] ys = omega arith
named-append number (x ∷ xs) ys = omega (arith, named-append number xs ys)

turned-add : (count more : ℕ) (job : JobTree) → job_turned more (job_turned count job) ≡ job_turned (more + count) job
turned-add count more job = ap (λ (standing : Standing). record { task = job.task; standing = standing }) (turns-add job.task count more job.standing)

pub turned-turned : (xs ys : List ℕ) (first : ℕ) (jobs : List JobTree) → jobs_turned ys first (jobs_turned xs first jobs) ≡ jobs_turned (xs ++ ys) first jobs
turned-turned xs ys first [] = refl
turned-turned xs ys first (job ∷ more) =
    let count : named first ys + named first xs ≡ named first (xs ++ ys) = omega (arith, named-append first xs ys) in
    ap₂ (λ (one : JobTree) (others : List JobTree). one ∷ others) (turned-add (named first xs) (named first ys) job ∙ ap (λ n. job_turned n job) count)
    (turned-turned xs ys (first + 1) more)

pub turned-none : (first : ℕ) (jobs : List JobTree) → jobs_turned [] first jobs ≡ jobs
turned-none first [] = refl
turned-none first (job ∷ more) = ap (λ others. job ∷ others) (turned-none (first + 1) more)

abbrev option_turned : (count : ℕ) → Option JobTree → Option JobTree
option_turned count None = None
option_turned count (Some job) = Some (job_turned count job)

-- each has taken as many as it is named
pub turned-at : (xs : List ℕ) (first place : ℕ) (jobs : List JobTree) (job : JobTree) → slice_get jobs place ≡ Some job
    → slice_get (jobs_turned xs first jobs) place ≡ Some (job_turned (named (first + place) xs) job)
turned-at xs first place [] job at = let none : None ≡ Some job = at in absurd cc
turned-at xs first zero (one ∷ more) job at =
    let same : first ≡ first + 0 = omega arith in
    ap (option_turned (named first xs)) at ∙ ap (λ n. Some (job_turned (named n xs) job)) same
turned-at xs first (suc place) (one ∷ more) job at =
    let same : first + 1 + place ≡ first + suc place = omega arith in
    turned-at xs (first + 1) place more job at ∙ ap (λ n. Some (job_turned (named n xs) job)) same

-- one that isn't named took none
pub unnamed : (number first : ℕ) (jobs : List JobTree) → number < first → jobs_turned (number ∷ []) first jobs ≡ jobs
unnamed number first [] before = refl
unnamed number first (job ∷ more) before =
    let other : nat_eq number first ≡ false = ne_eqb number first (λ same. omega (arith, same, before)) in
    ap₂ (λ (one : JobTree) (others : List JobTree). one ∷ others) (rw other refl) (unnamed number (first + 1) more (omega (arith, before)))

-- and of one number alone that job took one
pub turned-one : (first place : ℕ) (jobs : List JobTree) (job : JobTree) → slice_get jobs place ≡ Some job
    → jobs_turned ((first + place) ∷ []) first jobs ≡ set jobs place (job_turned 1 job)
turned-one first place [] job at = let none : None ≡ Some job = at in absurd cc
turned-one first zero (one ∷ more) job at =
    let here : nat_eq (first + 0) first ≡ true = eq-eqb (first + 0) first (omega arith) in
    let is : one ≡ job = ap (λ found. unwrap_or found one) at in
    ap₂ (λ (one : JobTree) (others : List JobTree). one ∷ others) (rw here (ap (job_turned 1) is)) (unnamed (first + 0) (first + 1) more (omega arith))
turned-one first (suc place) (one ∷ more) job at =
    let other : nat_eq (first + suc place) first ≡ false = ne_eqb (first + suc place) first (λ same. omega (arith, same)) in
    let same : first + suc place ≡ first + 1 + place = omega arith in
    ap₂ (λ (one : JobTree) (others : List JobTree). one ∷ others) (rw other refl)
    (ap (λ n. jobs_turned (n ∷ []) (first + 1) more) same ∙ turned-one (first + 1) place more job at)
