use Rattle.std.proofs.Common.{◌≡◌, ◌∙◌, ◌++◌, ap, arith, length, map, subst, sym, take}
use Rattle.std.specs.Prelude.{List, ℕ, ◌<◌, ◌+◌}
use Rattle.std.proofs.lemmas.List.{append_assoc, length-map}
use Rattle.turns.specs.Jobs.{job_tree}
use Rattle.turns.specs.Taking.{StopsAmong, TakesRunning, running_at, numbers_running}
use Rattle.turns.proofs.TurnsTaken.{on-err, stops-on}
use Rattle.turns.proofs.Rounds.{next-numbers, numbers-behind, told-none, told-on}
use Rattle.turns.proofs.IdleStays.{idle-on, idle-same}
use Rattle.turns.proofs.taking.take_round.Goals as goal

pub loop-number-init : goal.loop-number-init
loop-number-init c = (told-none (map job_tree c.args.jobs.now) c.args.taken.now.items, idle-same c.args.jobs.now)

pub returns-in_err-take_turn_of_round-clause-stops : goal.returns-in_err-take_turn_of_round-clause-stops
returns-in_err-take_turn_of_round-clause-stops c =
    let old = map job_tree c.args.jobs.now in
    let at = map job_tree c.loop-number.jobs in
    let new = map job_tree c.take_turn_of_round.new.jobs in
    let place = c.loop-number.number in
    let before = numbers_running 0 (take place old) in
    let here = running_at place at in
    let there : place < length old = omega (arith, c.loop-number-test.true, c.loop-number.auto.number-end, length-map c.args.jobs.now job_tree) in
    let turned = c.loop-number.invariant.0.takes.turned in
    let behind = numbers-behind old (place + 1) in
    let all : numbers_running 0 old ≡ before ++ (here ++ behind.0) =
    behind.1 ∙ ap (λ numbers. numbers ++ behind.0) (next-numbers old at place there turned) ∙ append_assoc before here behind.0 in
    on-err c.from_residual.result (subst (λ (numbers : List ℕ). StopsAmong numbers old new) (sym all)
    (stops-on before here behind.0 old at new (sym turned) c.in_err-take_turn_of_round.ensures.stops))

pub loop-number-preserved : goal.loop-number-preserved
loop-number-preserved c =
    let old = map job_tree c.args.jobs.now in
    let at = map job_tree c.loop-number.jobs in
    let new = map job_tree c.take_turn_of_round.new.jobs in
    let place = c.loop-number.number in
    let told = c.args.taken.now.items in
    let told'' = c.take_turn_of_round.new.taken.items in
    let before = numbers_running 0 (take place old) in
    let there : place < length old = omega (arith, c.loop-number-test.true, c.loop-number.auto.number-end, length-map c.args.jobs.now job_tree) in
    let on = told-on before (running_at place at) old at new told c.loop-number.taken.items told'' c.loop-number.invariant.0 c.in_ok-take_turn_of_round.ensures.takes in (
      subst (λ (numbers : List ℕ). TakesRunning numbers old new told told'') (sym (next-numbers old at place there c.loop-number.invariant.0.takes.turned)) on,
      idle-on c.args.jobs.now c.loop-number.jobs c.take_turn_of_round.new.jobs c.loop-number.invariant.1 c.take_turn_of_round.ensures.idle,
    )

pub returns-in_err-take_turn_of_round-clause-idle : goal.returns-in_err-take_turn_of_round-clause-idle
returns-in_err-take_turn_of_round-clause-idle c =
    idle-on c.args.jobs.now c.loop-number.jobs c.take_turn_of_round.new.jobs c.loop-number.invariant.1 c.take_turn_of_round.ensures.idle
