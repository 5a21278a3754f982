-- The turns are of these jobs, and what they print is due.
use Rattle.std.proofs.Common.{◌≡◌, ◌∙◌, ℕ, ◌<◌, ◌++◌, List, true, false, if◌then◌else◌, length, map, refl, sym, ap, subst}
use Rattle.std.specs.Prelude.{All}
use Rattle.std.specs.List.{flat_map, list_any}
use Rattle.std.proofs.lemmas.List.{length-map}
use Rattle.turns.specs.Jobs.{JobShape, job_tree}
use Rattle.turns.specs.Standing.{JobTask}
use Rattle.turns.specs.Taking.{jobs_turned, numbers_to_end, turns_told}
use Rattle.turns.specs.declared.turn.Turn.{Turn}
use Rattle.workspace.specs.Outcome.{Prints, Refuses}
use Rattle.workspace.specs.declared.refusal.Refusal.TheVariants as refusal
use Rattle.session.specs.Printed.{job_text, turn_line}
use Rattle.session.specs.Turns.{fresh_jobs, is_past, jobs_by, jobs_ended, numbers_from_0, turns_taken}
use Rattle.session.specs.Uses.{IsTurnOf, bouquets_of, task_of_use}
use Rattle.session.specs.declared.uses.Used.{Used}
use Rattle.session.proofs.JobTurns.{bouquets-asked, fresh-count, fresh-tasks, told-are, turned-length}
use Rattle.session.proofs.by_turns.jobs_answer.Goals as goal

pub take_turns-requires : goal.take_turns-requires
take_turns-requires c =
    let all : List Used = c.args.asked.now.all.now in
    let jobs : List JobShape = c.args.jobs.now in
    let count : length jobs ≡ length all =
    sym (length-map jobs job_tree) ∙ fresh-count (map job_tree jobs) all (task_of_use c.args.asked.now.max_work c.args.asked.now.database.now) c.requires.fresh in
    subst (λ count. All (λ number. number < count) c.args.numbers.now) (sym count) c.requires.there

pub returns-then-any_past : goal.returns-then-any_past
returns-then-any_past c = λ by world numbers.
    let max_work = c.args.asked.now.max_work in
    let all : List Used = c.args.asked.now.all.now in
    let tasks : List JobTask = map (task_of_use max_work c.args.asked.now.database.now) all in
    let begun : map job_tree c.take_turns.new.jobs ≡ jobs_by tasks by =
    c.in_ok-first.ensures.turned ∙ (λ i. jobs_turned (numbers i) 0 (c.requires.fresh i)) in
    let ended : map job_tree c.finish_turns.new.jobs ≡ jobs_ended tasks by =
    c.in_ok-others.ensures.turned ∙ (λ i. jobs_turned (numbers_to_end (begun i)) 0 (begun i)) in
    let past : list_any is_past (jobs_ended tasks by) ≡ true = ap (list_any is_past) (sym ended) ∙ sym c.any_past.ensures ∙ c.if-any_past.true in
    let bouquets = map (λ (task : JobTask). task.bouquet) tasks in
    rw c.from.ensures (
      ap (λ b. if b then Refuses (refusal.PastWork max_work false) else Prints (flat_map (turn_line bouquets) (turns_taken tasks by) ++ flat_map job_text (jobs_ended tasks by)) 0 world) past,
      refl,
    )

pub turns_text-requires-clause-first : goal.turns_text-requires-clause-first
turns_text-requires-clause-first c =
    let all : List Used = c.args.asked.now.all.now in
    let jobs = map job_tree c.args.jobs.now in
    subst (All (IsTurnOf (length all))) (sym (c.deref.ensures.value ∙ c.in_ok-first.ensures.taken))
    (subst (λ count. All (IsTurnOf count) (turns_told c.args.numbers.now jobs)) (fresh-count jobs all (task_of_use c.args.asked.now.max_work c.args.asked.now.database.now) c.requires.fresh) (told-are c.args.numbers.now jobs))

pub turns_text-requires-clause-others : goal.turns_text-requires-clause-others
turns_text-requires-clause-others c =
    let all : List Used = c.args.asked.now.all.now in
    let before = map job_tree c.args.jobs.now in
    let jobs = map job_tree c.take_turns.new.jobs in
    let count : length jobs ≡ length all =
    ap (λ l. length l) c.in_ok-first.ensures.turned ∙ turned-length c.args.numbers.now 0 before
    ∙ fresh-count before all (task_of_use c.args.asked.now.max_work c.args.asked.now.database.now) c.requires.fresh in
    subst (All (IsTurnOf (length all))) (sym (c.deref-2.ensures.value ∙ c.in_ok-others.ensures.taken))
    (subst (λ count. All (IsTurnOf count) (turns_told (numbers_to_end jobs) jobs)) count (told-are (numbers_to_end jobs) jobs))

pub turns_text-requires-clause-jobs : goal.turns_text-requires-clause-jobs
turns_text-requires-clause-jobs c =
    c.in_ok-others.ensures.whole ∙ c.in_ok-first.ensures.whole
    ∙ fresh-tasks c.args.jobs.now (map (task_of_use c.args.asked.now.max_work c.args.asked.now.database.now) c.args.asked.now.all.now) c.requires.fresh

pub returns : goal.returns
returns c = λ by world numbers.
    let max_work = c.args.asked.now.max_work in
    let all : List Used = c.args.asked.now.all.now in
    let tasks : List JobTask = map (task_of_use max_work c.args.asked.now.database.now) all in
    let line : Turn → List ℕ = turn_line (bouquets_of all) in
    let begun : map job_tree c.take_turns.new.jobs ≡ jobs_by tasks by =
    c.in_ok-first.ensures.turned ∙ (λ i. jobs_turned (numbers i) 0 (c.requires.fresh i)) in
    let ended : map job_tree c.finish_turns.new.jobs ≡ jobs_ended tasks by =
    c.in_ok-others.ensures.turned ∙ (λ i. jobs_turned (numbers_to_end (begun i)) 0 (begun i)) in
    let past : list_any is_past (jobs_ended tasks by) ≡ false = ap (list_any is_past) (sym ended) ∙ sym c.any_past.ensures ∙ c.if-any_past.false in
    let told : c.deref.result.now ≡ turns_told (numbers_from_0 by) (fresh_jobs tasks) =
    c.deref.ensures.value ∙ c.in_ok-first.ensures.taken ∙ (λ i. turns_told (numbers i) (c.requires.fresh i)) in
    let told' : c.deref-2.result.now ≡ turns_told (numbers_to_end (jobs_by tasks by)) (jobs_by tasks by) =
    c.deref-2.ensures.value ∙ c.in_ok-others.ensures.taken ∙ (λ i. turns_told (numbers_to_end (begun i)) (begun i)) in
    let printed : c.in_ok-turns_text.field-0.items ≡ flat_map line (turns_taken tasks by) ++ flat_map job_text (jobs_ended tasks by) =
    c.in_ok-turns_text.ensures ∙ (λ i. flat_map line (told i ++ told' i) ++ flat_map job_text (ended i)) in
    let bouquets = map (λ (task : JobTask). task.bouquet) tasks in
    ap (λ b. if b then Refuses (refusal.PastWork max_work false) else Prints (flat_map (turn_line bouquets) (turns_taken tasks by) ++ flat_map job_text (jobs_ended tasks by)) 0 world) past
    ∙ ap (λ named. Prints (flat_map (turn_line named) (turns_taken tasks by) ++ flat_map job_text (jobs_ended tasks by)) 0 world) (bouquets-asked max_work c.args.asked.now.database.now all)
    ∙ ap (λ text. Prints text 0 world) (sym printed)
