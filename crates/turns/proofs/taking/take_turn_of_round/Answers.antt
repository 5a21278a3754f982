use Rattle.std.proofs.Common.{◌∙◌, false, get_or, map, subst, sym, true}
use Rattle.std.specs.Prelude.{List, ℕ}
use Rattle.std.proofs.lemmas.Result.{on_err_weaker, on_ok_weaker}
use Rattle.turns.specs.Jobs.{job_tree}
use Rattle.turns.specs.Taking.{StopsAmong, TakesRunning}
use Rattle.turns.proofs.TurnsTaken.{job-tree-at}
use Rattle.turns.proofs.Rounds.{numbers-at, told-none, told-running}
use Rattle.turns.proofs.taking.take_turn_of_round.Goals as goal

pub returns-then-is_running-clause-takes : goal.returns-then-is_running-clause-takes
returns-then-is_running-clause-takes c =
    let number = c.args.number in
    let jobs = map job_tree c.args.jobs.now in
    let new = map job_tree c.take_turn.new.jobs in
    let told = c.args.taken.now.items in
    let told' = c.take_turn.new.taken.items in
    let job = job_tree (get_or c.args.jobs.now number c.index-jobs-number.result) in
    let there = job-tree-at c.args.jobs.now number c.index-jobs-number.result c.requires in
    let runs = sym c.is_running.ensures ∙ c.if-is_running.true in
    on_ok_weaker c.take_turn.result (λ takes.
    subst (λ (numbers : List ℕ). TakesRunning numbers jobs new told told') (sym (numbers-at number jobs job true there runs))
    (told-running number jobs new job told told' there runs takes)) c.take_turn.ensures.takes

pub returns-then-is_running-clause-stops : goal.returns-then-is_running-clause-stops
returns-then-is_running-clause-stops c =
    let number = c.args.number in
    let jobs = map job_tree c.args.jobs.now in
    let new = map job_tree c.take_turn.new.jobs in
    let job = job_tree (get_or c.args.jobs.now number c.index-jobs-number.result) in
    let there = job-tree-at c.args.jobs.now number c.index-jobs-number.result c.requires in
    on_err_weaker c.take_turn.result (λ stops.
    subst (λ (numbers : List ℕ). StopsAmong numbers jobs new) (sym (numbers-at number jobs job true there (sym c.is_running.ensures ∙ c.if-is_running.true))) stops)
    c.take_turn.ensures.stops

pub returns-else-is_running-clause-takes : goal.returns-else-is_running-clause-takes
returns-else-is_running-clause-takes c =
    let number = c.args.number in
    let jobs = map job_tree c.args.jobs.now in
    let told = c.args.taken.now.items in
    let job = job_tree (get_or c.args.jobs.now number c.index-jobs-number.result) in
    let there = job-tree-at c.args.jobs.now number c.index-jobs-number.result c.requires in
    subst (λ (numbers : List ℕ). TakesRunning numbers jobs jobs told told) (sym (numbers-at number jobs job false there (sym c.is_running.ensures ∙ c.if-is_running.false)))
    (told-none jobs told)
