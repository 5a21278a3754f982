-- The answer of one job more.
use Rattle.std.proofs.Common.{◌≡◌, ◌∙◌, ℕ, ◌+◌, ◌<◌, ◌++◌, List, [], ◌∷◌, length, map, take, get_or, ap, sym, arith}
use Rattle.std.specs.List.{flat_map}
use Rattle.std.proofs.lemmas.List.{flat_map_more, get_or-map, length-map, map-append, take_more}
use Rattle.turns.specs.Jobs.{JobShape, job_tree, task_of}
use Rattle.turns.specs.Standing.{JobTask}
use Rattle.session.specs.Printed.{job_text}
use Rattle.session.specs.Uses.{task_of_use}
use Rattle.session.specs.declared.uses.Used.{Used}
use Rattle.session.proofs.turn_lines.push_answers.Goals as goal

pub push_answer-requires-clause-job : goal.push_answer-requires-clause-job
push_answer-requires-clause-job c =
    let database = c.args.asked.now.database.now in
    let jobs : List JobShape = c.args.jobs.now in
    let all : List Used = c.args.asked.now.all.now in
    let place : ℕ = c.loop-place.place in
    let job : JobShape = c.index-jobs-place.result in
    let used : Used = c.index-all-place.result in
    let asked : Used → JobTask = task_of_use c.args.asked.now.max_work database in
    let there : place < length jobs = c.loop-place-test.true in
    let there' : place < length all = omega (arith, there, length-map jobs task_of, length-map all asked, ap (λ (l : List JobTask). length l) c.requires.jobs) in
    let same : task_of job ≡ asked used =
    ap task_of c.index-jobs-place.is ∙ sym (get_or-map task_of jobs place job (task_of job) there)
    ∙ ap (λ l. get_or l place (task_of job)) c.requires.jobs
    ∙ get_or-map asked all place used (task_of job) there' ∙ ap asked (sym c.index-all-place.is) in
    same ∙ ap (λ most. task_of_use most database used) (sym (ap (λ (task : JobTask). task.most) same))

pub loop-place-preserved : goal.loop-place-preserved
loop-place-preserved c =
    let jobs : List JobShape = c.args.jobs.now in
    let place : ℕ = c.loop-place.place in
    let job : JobShape = c.index-jobs-place.result in
    let before : List ℕ = c.args.text.now.items in
    let taken : take (place + 1) jobs ≡ take place jobs ++ job ∷ [] =
    take_more jobs place job c.loop-place-test.true ∙ ap (λ j. take place jobs ++ j ∷ []) (sym c.index-jobs-place.is) in
    c.in_ok-push_answer.ensures ∙ (λ i. c.loop-place.invariant i ++ job_text (job_tree job))
    ∙ flat_map_more job_text before (map job_tree (take place jobs)) (job_tree job)
    ∙ ap (λ l. before ++ flat_map job_text l) (sym (ap (map job_tree) taken ∙ map-append job_tree (take place jobs) (job ∷ [])))
