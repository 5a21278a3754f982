use Rattle.std.proofs.Common.{◌≡◌, ◌∙◌, ◌++◌, ◌∷◌, [], ap, drop, get_or, length, map, subst, sym, take}
use Rattle.std.specs.Prelude.{List, ℕ, ◌+◌, ◌≤◌}
use Rattle.std.proofs.lemmas.List.{drop_more, take-append-drop, take_all, take_more}
use Rattle.turns.specs.Jobs.{JobTree, job_tree}
use Rattle.turns.specs.Taking.{EachStands, StopsAmong, TakesAll}
use Rattle.turns.specs.declared.turn.Turn.{Turn}
use Rattle.turns.proofs.TurnsTaken.{each-stands, on-err, same-tasks, shape-tasks, stops-on, takes-none, takes-on, tasks-among, tasks_of}
use Rattle.turns.proofs.IdleStays.{idle-on, idle-same}
use Rattle.turns.proofs.taking.take_turns.Goals as goal

pub loop-number-init : goal.loop-number-init
loop-number-init c = (rw c.new-taken.ensures.items (takes-none (map job_tree c.args.jobs.now) []), idle-same c.args.jobs.now)

pub loop-number-preserved : goal.loop-number-preserved
loop-number-preserved c =
    let old = map job_tree c.args.jobs.now in
    let at = map job_tree c.loop-number.jobs in
    let new = map job_tree c.take_turn.new.jobs in
    let numbers = c.args.turns.now in
    let place = c.loop-number.number-index in
    let told = c.loop-number.taken.items in
    let told' = c.take_turn.new.taken.items in
    let on = takes-on (take place numbers) (get_or numbers place 0 ∷ []) old at new [] told told' c.loop-number.invariant.0 c.in_ok-take_turn.ensures.takes in (
      subst (λ (numbers : List ℕ). TakesAll numbers old new [] told') (sym (take_more numbers place 0 c.loop-number-test.true)) on,
      idle-on c.args.jobs.now c.loop-number.jobs c.take_turn.new.jobs c.loop-number.invariant.1 c.take_turn.ensures.idle,
    )

pub returns-in_err-take_turn-clause-idle : goal.returns-in_err-take_turn-clause-idle
returns-in_err-take_turn-clause-idle c = idle-on c.args.jobs.now c.loop-number.jobs c.take_turn.new.jobs c.loop-number.invariant.1 c.take_turn.ensures.idle

-- turns of all numbers were taken
took : (numbers : List ℕ) (place : ℕ) (old new : List JobTree) (told : List Turn) → length numbers ≤ place → TakesAll (take place numbers) old new [] told → TakesAll numbers old new [] told
took numbers place old new told end takes = subst (λ (all : List ℕ). TakesAll all old new [] told) (take_all place numbers end) takes

pub returns-in_err-take_turn-clause-stopped : goal.returns-in_err-take_turn-clause-stopped
returns-in_err-take_turn-clause-stopped c =
    let old = map job_tree c.args.jobs.now in
    let at = map job_tree c.loop-number.jobs in
    let new = map job_tree c.take_turn.new.jobs in
    let numbers = c.args.turns.now in
    let place = c.loop-number.number-index in
    let before = take place numbers in
    let here = get_or numbers place 0 in
    let behind = drop (place + 1) numbers in
    let all : numbers ≡ before ++ ((here ∷ []) ++ behind) =
    sym (take-append-drop place numbers) ∙ ap (λ more. before ++ more) (drop_more numbers place 0 c.loop-number-test.true) in
    on-err c.from_residual.result (subst (λ (numbers : List ℕ). StopsAmong numbers old new) (sym all)
    (stops-on before (here ∷ []) behind old at new (sym c.loop-number.invariant.0.turned) c.in_err-take_turn.ensures.stops))

pub returns-in_err-take_turn-clause-whole : goal.returns-in_err-take_turn-clause-whole
returns-in_err-take_turn-clause-whole c =
    let old = map job_tree c.args.jobs.now in
    let at = map job_tree c.loop-number.jobs in
    let new = map job_tree c.take_turn.new.jobs in
    let numbers = c.args.turns.now in
    let place = c.loop-number.number-index in
    shape-tasks c.take_turn.new.jobs ∙ tasks-among (get_or numbers place 0 ∷ []) at new c.in_err-take_turn.ensures.stops
    ∙ ap tasks_of c.loop-number.invariant.0.turned ∙ same-tasks (take place numbers) 0 old ∙ sym (shape-tasks c.args.jobs.now)

pub returns-clause-each : goal.returns-clause-each
returns-clause-each c =
    let old = map job_tree c.args.jobs.now in
    let new = map job_tree c.loop-number.jobs in
    let numbers = c.args.turns.now in
    let takes = took numbers c.loop-number.number-index old new c.loop-number.taken.items c.loop-number-test.false c.loop-number.invariant.0 in
    subst (EachStands numbers old) (sym takes.turned) (each-stands numbers old)

pub returns-clause-whole : goal.returns-clause-whole
returns-clause-whole c =
    let old = map job_tree c.args.jobs.now in
    shape-tasks c.loop-number.jobs ∙ ap tasks_of c.loop-number.invariant.0.turned
    ∙ same-tasks (take c.loop-number.number-index c.args.turns.now) 0 old ∙ sym (shape-tasks c.args.jobs.now)
