use Rattle.std.proofs.Common.{◌≡◌, ◌∙◌, ap, arith, map, subst, sym}
use Rattle.std.specs.Prelude.{◌≤◌, ◌<◌}
use Rattle.turns.specs.Jobs.{job_tree}
use Rattle.turns.specs.Taking.{EachStands, numbers_running, numbers_told, rounds_left}
use Rattle.turns.proofs.TurnsTaken.{each-stands, on-err, same-tasks, shape-tasks, tasks-among, tasks_of}
use Rattle.turns.proofs.Rounds.{after_round, all-ended, fewer, first-round, last-round, next-round, stops-in}
use Rattle.turns.proofs.IdleStays.{idle-on, idle-same}
use Rattle.turns.proofs.taking.finish_turns.Goals as goal

pub rounds-init : goal.rounds-init
rounds-init c = (first-round (map job_tree c.args.jobs.now) c.new-taken.result.items c.new-taken.ensures.items, idle-same c.args.jobs.now)

pub rounds-smaller : goal.rounds-smaller
rounds-smaller c =
    let at = map job_tree c.rounds.jobs in
    let new = map job_tree c.take_round.new.jobs in
    let same : rounds_left new ≡ rounds_left (after_round 0 at) = ap rounds_left c.in_ok-take_round.ensures.takes.takes.turned in
    let less : rounds_left new < rounds_left at = omega (arith, fewer at (c.any_running.ensures.some c.rounds-test.true), same) in
    less

pub rounds-preserved : goal.rounds-preserved
rounds-preserved c = (
  next-round (map job_tree c.args.jobs.now) (map job_tree c.rounds.jobs) (map job_tree c.take_round.new.jobs) c.rounds.taken.items c.take_round.new.taken.items
      (c.any_running.ensures.some c.rounds-test.true) c.rounds.invariant.0 c.in_ok-take_round.ensures.takes,
  idle-on c.args.jobs.now c.rounds.jobs c.take_round.new.jobs c.rounds.invariant.1 c.take_round.ensures.idle,
)

pub returns-in_err-take_round-clause-idle : goal.returns-in_err-take_round-clause-idle
returns-in_err-take_round-clause-idle c = idle-on c.args.jobs.now c.rounds.jobs c.take_round.new.jobs c.rounds.invariant.1 c.take_round.ensures.idle

pub returns-in_err-take_round-clause-stopped : goal.returns-in_err-take_round-clause-stopped
returns-in_err-take_round-clause-stopped c =
    on-err c.from_residual.result (
    stops-in (map job_tree c.args.jobs.now) (map job_tree c.rounds.jobs) (map job_tree c.take_round.new.jobs) c.rounds.taken.items
    (c.any_running.ensures.some c.rounds-test.true) c.rounds.invariant.0 c.in_err-take_round.ensures.stops
    )

pub returns-in_err-take_round-clause-whole : goal.returns-in_err-take_round-clause-whole
returns-in_err-take_round-clause-whole c =
    let old = map job_tree c.args.jobs.now in
    let at = map job_tree c.rounds.jobs in
    shape-tasks c.take_round.new.jobs ∙ tasks-among (numbers_running 0 at) at (map job_tree c.take_round.new.jobs) c.in_err-take_round.ensures.stops
    ∙ ap tasks_of c.rounds.invariant.0.takes.turned ∙ same-tasks (numbers_told c.rounds.taken.items) 0 old ∙ sym (shape-tasks c.args.jobs.now)

pub returns-clause-turned : goal.returns-clause-turned
returns-clause-turned c =
    let none : rounds_left (map job_tree c.rounds.jobs) ≤ 0 = omega (arith, c.any_running.ensures.none c.rounds-test.false) in
    (last-round (map job_tree c.args.jobs.now) (map job_tree c.rounds.jobs) c.rounds.taken.items none c.rounds.invariant.0).turned

pub returns-clause-taken : goal.returns-clause-taken
returns-clause-taken c =
    let none : rounds_left (map job_tree c.rounds.jobs) ≤ 0 = omega (arith, c.any_running.ensures.none c.rounds-test.false) in
    (last-round (map job_tree c.args.jobs.now) (map job_tree c.rounds.jobs) c.rounds.taken.items none c.rounds.invariant.0).tells

pub returns-clause-each : goal.returns-clause-each
returns-clause-each c =
    let old = map job_tree c.args.jobs.now in
    let numbers = numbers_told c.rounds.taken.items in
    subst (EachStands numbers old) (sym c.rounds.invariant.0.takes.turned) (each-stands numbers old)

pub returns-clause-ended : goal.returns-clause-ended
returns-clause-ended c =
    let none : rounds_left (map job_tree c.rounds.jobs) ≤ 0 = omega (arith, c.any_running.ensures.none c.rounds-test.false) in
    all-ended (map job_tree c.rounds.jobs) none

pub returns-clause-whole : goal.returns-clause-whole
returns-clause-whole c =
    shape-tasks c.rounds.jobs ∙ ap tasks_of c.rounds.invariant.0.takes.turned ∙ same-tasks (numbers_told c.rounds.taken.items) 0 (map job_tree c.args.jobs.now)
    ∙ sym (shape-tasks c.args.jobs.now)
