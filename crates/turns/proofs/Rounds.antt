-- Rounds of turns, until no job runs.
use Rattle.std.proofs.Common.{◌≡◌, ◌∙◌, ℕ, zero, suc, ◌+◌, ◌-◌, ◌<◌, ◌≤◌, ◌++◌, Bool, true, false, nat_eq, if◌then◌else◌, List, [], ◌∷◌, length, map, take, drop, get_or, refl, ap, sym, subst, arith}
use Rattle.std.specs.Prelude.{All, Some, slice_get}
use Rattle.std.proofs.lemmas.Bool.{ne_eqb, eq-eqb}
use Rattle.std.proofs.lemmas.List.{append_assoc, append-nil, drop_all, drop_more, length-take-le, map-append, take-append-drop, take_more}
use Rattle.std.proofs.lemmas.Option.{get_or_from_slice_get}
use Rattle.std.proofs.lemmas.List.Elements.{All-cons, All-nil}
use Rattle.bouquet_type.specs.Schedule.{Member, final_plan}
use Rattle.bouquet_type.specs.Cursor.{members_behind}
use Rattle.bouquet_run.specs.Coming.{Coming, Passes, Ends, GoesOn}
use Rattle.bouquet_run.proofs.Onward.{LeadsOn, leads-on}
use Rattle.bouquet_run.specs.Outcomes.{works_over}
use Rattle.turns.specs.Standing.{JobTask, Standing, Runs, Ended, Past, Lost, next_coming, stands_by, turn_of}
use Rattle.turns.specs.Jobs.{JobShape, JobTree, job_tree}
use Rattle.turns.specs.Taking.{StopsAmong, TakesAll, TakesRunning, is_running, job_turned, jobs_turned, named, number_of, running_at, numbers_of_rounds, numbers_running, numbers_to_end, numbers_told, rounds_left, turn_told, turn_told_of, turns_left, turns_told}
use Rattle.turns.specs.declared.turn.Turn.{Turn}
use Rattle.turns.proofs.JobsTurned.{turned-at, turned-none, turned-turned, unnamed}
use Rattle.turns.proofs.TurnsTaken.{job-at, stops-on, takes-none, takes-on}

-- a number is put first, or not
abbrev pub put_first : (first : ℕ) → Bool → List ℕ → List ℕ
put_first first runs numbers = if runs then first ∷ numbers else numbers

with-first : (first : ℕ) (runs : Bool) (all xs ys : List ℕ) → all ≡ xs ++ ys → put_first first runs all ≡ put_first first runs xs ++ ys
with-first first true all xs ys same = ap (λ numbers. first ∷ numbers) same
with-first first false all xs ys same = same

without : (number first : ℕ) (runs : Bool) (numbers : List ℕ) → (first ≡ number → ⊥) → named number numbers ≡ 0 → named number (put_first first runs numbers) ≡ 0
without number first true numbers differ none = let other : nat_eq first number ≡ false = ne_eqb first number differ in rw other (omega (arith, none))
without number first false numbers differ none = none

-- the numbers of two parts of some jobs
pub running-append : (first : ℕ) (xs ys : List JobTree) → numbers_running first (xs ++ ys) ≡ numbers_running first xs ++ numbers_running (first + length xs) ys
running-append first [] ys = let same : first ≡ first + 0 = omega arith in ap (λ n. numbers_running n ys) same
running-append first (job ∷ xs) ys =
    let same : first + 1 + length xs ≡ first + length (job ∷ xs) = omega arith in
    let more : numbers_running (first + 1) (xs ++ ys) ≡ numbers_running (first + 1) xs ++ numbers_running (first + length (job ∷ xs)) ys =
    running-append (first + 1) xs ys ∙ ap (λ n. numbers_running (first + 1) xs ++ numbers_running n ys) same in
    with-first first (is_running job.standing) (numbers_running (first + 1) (xs ++ ys)) (numbers_running (first + 1) xs) (numbers_running (first + length (job ∷ xs)) ys) more

-- none of them is outside the numbers of these jobs
pub not-below : (number first : ℕ) (jobs : List JobTree) → number < first → named number (numbers_running first jobs) ≡ 0
not-below number first [] below = refl
not-below number first (job ∷ more) below = without number first (is_running job.standing) (numbers_running (first + 1) more) (λ same. omega (arith, same, below)) (not-below number (first + 1) more (omega (arith, below)))

pub not-above : (number first : ℕ) (jobs : List JobTree) → first + length jobs ≤ number → named number (numbers_running first jobs) ≡ 0
not-above number first [] above = refl
not-above number first (job ∷ more) above =
    without number first (is_running job.standing) (numbers_running (first + 1) more) (λ same. omega (arith, same, above)) (not-above number (first + 1) more (omega (arith, above)))

-- a turn of a job that runs leaves it fewer
turn-falls : (task : JobTask) (standing : Standing) (left : ℕ) → is_running standing ≡ true → turns_left standing ≤ left + 1 → turns_left (turn_of task standing) ≤ left
turn-falls task (Runs place spent left) most runs few =
    let final = final_plan task.bouquet in
    left-by place spent left most few (next_coming task place spent left) (leads-on (works_over task.database task.block) final task.most spent place left)
  where
    left-by : (place spent : ℕ) (left : List Member) (most : ℕ) → 1 + length left ≤ most + 1 → (coming : Coming)
        → LeadsOn (works_over task.database task.block) (final_plan task.bouquet) task.most spent place left coming → turns_left (stands_by coming (place + 1) (members_behind left)) ≤ most
    left-by place spent left most few Passes leads = omega arith
    left-by place spent left most few (Ends end) leads = omega arith
    left-by place spent left most few (GoesOn more) leads = omega (arith, leads.1, few)
turn-falls task (Ended end) left runs few = omega arith
turn-falls task Past left runs few = omega arith
turn-falls task Lost left runs few = omega arith

-- a round
abbrev pub after_round : (first : ℕ) → List JobTree → List JobTree
after_round first jobs = jobs_turned (numbers_running first jobs) first jobs

-- what the jobs behind the first one take, and the first one
behind : (first : ℕ) (runs : Bool) (numbers : List ℕ) (jobs : List JobTree) → jobs_turned (put_first first runs numbers) (first + 1) jobs ≡ jobs_turned numbers (first + 1) jobs
behind first true numbers jobs =
    sym (turned-turned (first ∷ []) numbers (first + 1) jobs) ∙ ap (jobs_turned numbers (first + 1)) (unnamed first (first + 1) jobs (omega arith))
behind first false numbers jobs = refl

one-turn : (first : ℕ) (runs : Bool) (numbers : List ℕ) (job : JobTree) (left : ℕ) → is_running job.standing ≡ runs → named first numbers ≡ 0 → turns_left job.standing ≤ left + 1
    → turns_left (job_turned (named first (put_first first runs numbers)) job).standing ≤ left
one-turn first true numbers job left runs none few =
    let here : nat_eq first first ≡ true = eq-eqb first first refl in
    let once : named first (first ∷ numbers) ≡ 1 = rw here (omega (arith, none)) in
    rw once (turn-falls job.task job.standing left runs few)
one-turn first false numbers job left runs none few = rw none (idle job.standing runs)
  where
    idle : (standing : Standing) → is_running standing ≡ false → turns_left standing ≤ left
    idle (Runs place spent members) runs = absurd cc
    idle (Ended end) runs = omega arith
    idle Past runs = omega arith
    idle Lost runs = omega arith

-- after a round each job may take fewer turns
falls : (first left : ℕ) (jobs : List JobTree) → rounds_left jobs ≤ left + 1 → rounds_left (after_round first jobs) ≤ left
falls first left [] few = omega arith
falls first left (job ∷ more) few =
    let runs = is_running job.standing in
    let numbers = numbers_running (first + 1) more in
    let here = one-turn first runs numbers job left refl (not-below first (first + 1) more (omega arith)) (omega (arith, few)) in
    let others = falls (first + 1) left more (omega (arith, few)) in
    omega (arith, here, others, ap rounds_left (behind first runs numbers more))

-- no job runs
none-left : (first : ℕ) (jobs : List JobTree) → rounds_left jobs ≤ 0 → numbers_running first jobs ≡ []
none-left first [] none = refl
none-left first (job ∷ more) none = none-first first job.standing (omega (arith, none)) (numbers_running (first + 1) more) (none-left (first + 1) more (omega (arith, none)))
  where
    none-first : (first : ℕ) (standing : Standing) → turns_left standing ≤ 0 → (numbers : List ℕ) → numbers ≡ [] → put_first first (is_running standing) numbers ≡ []
    none-first first (Runs place spent members) none numbers is = absurd (omega (arith, none))
    none-first first (Ended end) none numbers is = is
    none-first first Past none numbers is = is
    none-first first Lost none numbers is = is

no-rounds : (count : ℕ) (jobs : List JobTree) → rounds_left jobs ≤ 0 → numbers_of_rounds count jobs ≡ []
no-rounds zero jobs none = refl
no-rounds (suc count) jobs none =
    let numbers = none-left 0 jobs none in
    ap (λ (all : List ℕ). all ++ numbers_of_rounds count (jobs_turned all 0 jobs)) numbers
    ∙ ap (numbers_of_rounds count) (turned-none 0 jobs) ∙ no-rounds count jobs none

-- further rounds add nothing
enough : (one other : ℕ) (jobs : List JobTree) → rounds_left jobs ≤ one → rounds_left jobs ≤ other → numbers_of_rounds one jobs ≡ numbers_of_rounds other jobs
enough zero other jobs first second = sym (no-rounds other jobs first)
enough (suc one) zero jobs first second = no-rounds (suc one) jobs second
enough (suc one) (suc other) jobs first second =
    ap (λ more. numbers_running 0 jobs ++ more)
    (enough one other (after_round 0 jobs) (falls 0 one jobs (omega (arith, first))) (falls 0 other jobs (omega (arith, second))))

-- the rest of the rounds, behind one
pub rest-of : (jobs : List JobTree) → 1 ≤ rounds_left jobs → numbers_to_end jobs ≡ numbers_running 0 jobs ++ numbers_to_end (after_round 0 jobs)
rest-of jobs some = go (rounds_left jobs) refl some
  where
    go : (count : ℕ) → rounds_left jobs ≡ count → 1 ≤ count → numbers_of_rounds count jobs ≡ numbers_running 0 jobs ++ numbers_to_end (after_round 0 jobs)
    go zero is some = absurd (omega (arith, some))
    go (suc count) is some =
        let few = falls 0 count jobs (omega (arith, is)) in
        ap (λ more. numbers_running 0 jobs ++ more) (enough count (rounds_left (after_round 0 jobs)) (after_round 0 jobs) few (omega arith))

pub fewer : (jobs : List JobTree) → 1 ≤ rounds_left jobs → rounds_left (after_round 0 jobs) < rounds_left jobs
fewer jobs some = let left = falls 0 (rounds_left jobs - 1) jobs (omega (arith, some)) in omega (arith, left, some)

pub ended : (jobs : List JobTree) → rounds_left jobs ≤ 0 → numbers_to_end jobs ≡ []
ended jobs none = no-rounds (rounds_left jobs) jobs none

-- in a round, a job that wasn't reached yet stands as before
pub untouched : (jobs : List JobTree) (place : ℕ) (job : JobTree) → slice_get jobs place ≡ Some job → (numbers : List ℕ) → named place numbers ≡ 0
    → slice_get (jobs_turned numbers 0 jobs) place ≡ Some job
untouched jobs place job at numbers none =
    let here : 0 + place ≡ place = omega arith in
    turned-at numbers 0 place jobs job at ∙ ap (λ n. Some (job_turned (named n numbers) job)) here ∙ ap (λ n. Some (job_turned n job)) none

pub numbers-at : (number : ℕ) (jobs : List JobTree) (job : JobTree) (runs : Bool) → slice_get jobs number ≡ Some job → is_running job.standing ≡ runs
    → running_at number jobs ≡ put_first number runs []
numbers-at number jobs job runs there is = ap (number_of number) there ∙ ap (λ runs. put_first number runs []) is

-- the numbers of a round up to the next job
pub next-numbers : (old at : List JobTree) (place : ℕ) → place < length old → at ≡ jobs_turned (numbers_running 0 (take place old)) 0 old
    → numbers_running 0 (take (place + 1) old) ≡ numbers_running 0 (take place old) ++ running_at place at
next-numbers old at place there turned =
    let found = job-at old place there in
    let job = found.0 in
    let before = take place old in
    let long : 0 + length before ≡ place = omega (arith, length-take-le place old (omega (arith, there))) in
    let here : slice_get at place ≡ Some job =
    ap (λ jobs. slice_get jobs place) turned ∙ untouched old place job found.1 (numbers_running 0 before) (not-above place 0 before (omega (arith, long))) in
    ap (numbers_running 0) (take_more old place job there ∙ ap (λ one. before ++ one ∷ []) (get_or_from_slice_get old place job job found.1))
    ∙ running-append 0 before (job ∷ [])
    ∙ ap (λ n. numbers_running 0 before ++ numbers_running n (job ∷ [])) long
    ∙ ap (λ one. numbers_running 0 before ++ number_of place one) (sym here)

-- and those behind them
pub numbers-behind : (jobs : List JobTree) (place : ℕ) → (more : List ℕ) × (numbers_running 0 jobs ≡ numbers_running 0 (take place jobs) ++ more)
numbers-behind jobs place =
    let before = take place jobs in
    let after = drop place jobs in
    (numbers_running (0 + length before) after, ap (numbers_running 0) (sym (take-append-drop place jobs)) ∙ running-append 0 before after)

-- turns of jobs that run are all told
told-of : (number : ℕ) (task : JobTask) (standing : Standing) → is_running standing ≡ true → numbers_told (turn_told number task standing) ≡ number ∷ []
told-of number task (Runs place spent left) runs = refl
told-of number task (Ended end) runs = absurd cc
told-of number task Past runs = absurd cc
told-of number task Lost runs = absurd cc

pub told-running : (number : ℕ) (old new : List JobTree) (job : JobTree) (told told' : List Turn) → slice_get old number ≡ Some job → is_running job.standing ≡ true
    → TakesAll (number ∷ []) old new told told' → TakesRunning (number ∷ []) old new told told'
told-running number old new job told told' there runs takes = record {
  takes = takes;
  told_all = ap numbers_told takes.tells ∙ map-append (λ (turn : Turn). turn.job) told (turns_told (number ∷ []) old)
      ∙ ap (λ (turns : List Turn). numbers_told told ++ numbers_told turns) (append-nil (turn_told_of number (slice_get old number)) ∙ ap (turn_told_of number) there)
      ∙ ap (λ numbers. numbers_told told ++ numbers) (told-of number job.task job.standing runs);
}

pub told-none : (jobs : List JobTree) (told : List Turn) → TakesRunning [] jobs jobs told told
told-none jobs told = record { takes = takes-none jobs told; told_all = sym (append-nil (numbers_told told)) }

pub told-on : (xs ys : List ℕ) (old at new : List JobTree) (told told' told'' : List Turn) → TakesRunning xs old at told told' → TakesRunning ys at new told' told''
    → TakesRunning (xs ++ ys) old new told told''
told-on xs ys old at new told told' told'' first more = record {
  takes = takes-on xs ys old at new told told' told'' first.takes more.takes;
  told_all = more.told_all ∙ ap (λ all. all ++ ys) first.told_all ∙ append_assoc (numbers_told told) xs ys;
}

-- whether a job may take turns
pub busy : (standing : Standing) → is_running standing ≡ true → 1 ≤ turns_left standing
busy (Runs place spent left) runs = omega arith
busy (Ended end) runs = absurd cc
busy Past runs = absurd cc
busy Lost runs = absurd cc

pub idle : (standing : Standing) → is_running standing ≡ false → turns_left standing ≡ 0
idle (Runs place spent left) runs = absurd cc
idle (Ended end) runs = refl
idle Past runs = refl
idle Lost runs = refl

-- none does, where none has turns left
pub all-ended : (jobs : List JobTree) → rounds_left jobs ≤ 0 → All (λ job. is_running job.standing ≡ false) jobs
all-ended [] none = All-nil (λ job. is_running job.standing ≡ false)
all-ended (job ∷ more) none = All-cons (λ job. is_running job.standing ≡ false) job more (ended-by job.standing (omega (arith, none))) (all-ended more (omega (arith, none)))
  where
    ended-by : (standing : Standing) → turns_left standing ≤ 0 → is_running standing ≡ false
    ended-by (Runs place spent left) none = absurd (omega (arith, none))
    ended-by (Ended end) none = refl
    ended-by Past none = refl
    ended-by Lost none = refl

-- the rounds that are left to the jobs from a place on
pub next-idle : (jobs : List JobShape) (place : ℕ) (job : JobShape) → place < length jobs → job ≡ get_or jobs place job → is_running (job_tree job).standing ≡ false
    → rounds_left (map job_tree (drop place jobs)) ≡ rounds_left (map job_tree (drop (place + 1) jobs))
next-idle jobs place job there is ends =
    let none = idle (job_tree job).standing ends in
    let more = ap (λ all. rounds_left (map job_tree all)) (drop_more jobs place job there) in
    let here = ap (λ one. rounds_left (map job_tree (one ∷ drop (place + 1) jobs))) (sym is) in
    more ∙ here ∙ omega (arith, none)

pub next-busy : (jobs : List JobShape) (place : ℕ) (job : JobShape) → place < length jobs → job ≡ get_or jobs place job → is_running (job_tree job).standing ≡ true
    → 1 ≤ rounds_left (map job_tree (drop place jobs))
next-busy jobs place job there is runs =
    let some = busy (job_tree job).standing runs in
    let more = ap (λ all. rounds_left (map job_tree all)) (drop_more jobs place job there) in
    let here = ap (λ one. rounds_left (map job_tree (one ∷ drop (place + 1) jobs))) (sym is) in
    omega (arith, some, more ∙ here)

pub none-behind : (jobs : List JobShape) (place : ℕ) → length jobs ≤ place → rounds_left (map job_tree (drop place jobs)) ≡ 0
none-behind jobs place end = ap (λ all. rounds_left (map job_tree all)) (drop_all place jobs end)

-- these turns were taken, and those of the rounds that are left stand behind them
pub record AreTaken (old at : List JobTree) (told : List Turn) : Type 0 where
  pub takes : TakesAll (numbers_told told) old at [] told
  pub rest : numbers_told told ++ numbers_to_end at ≡ numbers_to_end old

pub first-round : (jobs : List JobTree) (told : List Turn) → told ≡ [] → AreTaken jobs jobs told
first-round jobs told none = subst (λ (told : List Turn). AreTaken jobs jobs told) (sym none) (record { takes = takes-none jobs []; rest = refl })

pub next-round : (old at new : List JobTree) (told told' : List Turn) → 1 ≤ rounds_left at → AreTaken old at told → TakesRunning (numbers_running 0 at) at new told told' → AreTaken old new told'
next-round old at new told told' some are round =
    let before = numbers_told told in
    let here = numbers_running 0 at in
    record {
      takes = subst (λ (numbers : List ℕ). TakesAll numbers old new [] told') (sym round.told_all) (takes-on before here old at new [] told told' are.takes round.takes);
      rest = ap (λ (numbers : List ℕ). numbers ++ numbers_to_end new) round.told_all ∙ append_assoc before here (numbers_to_end new)
          ∙ ap (λ (jobs : List JobTree). before ++ (here ++ numbers_to_end jobs)) round.takes.turned ∙ ap (λ (more : List ℕ). before ++ more) (sym (rest-of at some)) ∙ are.rest;
    }

-- a stop in a round
pub stops-in : (old at new : List JobTree) (told : List Turn) → 1 ≤ rounds_left at → AreTaken old at told → StopsAmong (numbers_running 0 at) at new → StopsAmong (numbers_to_end old) old new
stops-in old at new told some are stops =
    subst (λ (numbers : List ℕ). StopsAmong numbers old new) (ap (λ (more : List ℕ). numbers_told told ++ more) (sym (rest-of at some)) ∙ are.rest)
    (stops-on (numbers_told told) (numbers_running 0 at) (numbers_to_end (after_round 0 at)) old at new (sym are.takes.turned) stops)

-- no round is left
pub last-round : (old at : List JobTree) (told : List Turn) → rounds_left at ≤ 0 → AreTaken old at told → TakesAll (numbers_to_end old) old at [] told
last-round old at told none are =
    let all : numbers_told told ≡ numbers_to_end old = sym (append-nil (numbers_told told)) ∙ ap (λ (more : List ℕ). numbers_told told ++ more) (sym (ended at none)) ∙ are.rest in
    subst (λ (numbers : List ℕ). TakesAll numbers old at [] told) all are.takes
