use Rattle.std.proofs.Common.{◌≡◌, ◌∙◌, ◌++◌, ◌∷◌, [], ap, get_or, map, refl, set, subst, sym}
use Rattle.std.specs.Prelude.{option_to_list}
use Rattle.std.proofs.lemmas.List.{map-set, set-get_or}
use Rattle.turns.specs.Jobs.{JobTree, job_tree}
use Rattle.turns.specs.Taking.{TakesAll, turn_told}
use Rattle.turns.proofs.IdleStays.{idle-set}
use Rattle.turns.proofs.TurnsTaken.{job-tree-at, on-err, stops-at, stops-before, stops-one, takes-one, told-runs}
use Rattle.turns.proofs.taking.take_turn.Goals as goal

pub returns-in_err-make_room-clause-stops : goal.returns-in_err-make_room-clause-stops
returns-in_err-make_room-clause-stops c =
    let number = c.args.number in
    let job = get_or c.args.jobs.now number c.index-jobs-number.result in
    let there = job-tree-at c.args.jobs.now number c.index-jobs-number.result c.requires in
    rw (set-get_or c.args.jobs.now number c.index-jobs-number.result)
    (on-err c.from_residual.result (stops-before number (map job_tree c.args.jobs.now) (job_tree job) there c.in_err-make_room.ensures.runs))

pub returns-in_err-make_room-clause-idle : goal.returns-in_err-make_room-clause-idle
returns-in_err-make_room-clause-idle c =
    let job = c.index-jobs-number.result in
    idle-set c.args.jobs.now c.args.number (get_or c.args.jobs.now c.args.number job) job (λ idle. refl)

pub returns-in_err-turn-clause-stops : goal.returns-in_err-turn-clause-stops
returns-in_err-turn-clause-stops c =
    let number = c.args.number in
    let jobs = map job_tree c.args.jobs.now in
    let job = get_or c.args.jobs.now number c.index-jobs-number.result in
    let there = job-tree-at c.args.jobs.now number c.index-jobs-number.result c.requires in
    let stops = stops-at number jobs (job_tree job) (job_tree c.turn.new.self) there c.in_err-turn.ensures.takes.0 c.in_err-turn.ensures.takes.1 in
    on-err c.from_residual-in_err-turn.result
    (rw (map-set job_tree c.args.jobs.now number c.turn.new.self) (stops-one number jobs (set jobs number (job_tree c.turn.new.self)) stops))

pub returns-clause-takes : goal.returns-clause-takes
returns-clause-takes c =
    let number = c.args.number in
    let jobs = map job_tree c.args.jobs.now in
    let job = get_or c.args.jobs.now number c.index-jobs-number.result in
    let there = job-tree-at c.args.jobs.now number c.index-jobs-number.result c.requires in
    let told = c.args.taken.now.items in
    let took = c.in_ok-turn.ensures.takes in
    let tells : c.push_taken.new.taken.items ≡ told ++ turn_told number (job_tree job).task (job_tree job).standing =
    c.push_taken.ensures ∙ ap (λ items. items ++ option_to_list c.in_ok-turn.turn) c.make_room.ensures.same ∙ ap (λ turns. told ++ turns) took.1 in
    let takes = takes-one number jobs (job_tree job) told c.push_taken.new.taken.items there tells took.2 in
    rw (map-set job_tree c.args.jobs.now number c.turn.new.self)
    (subst (λ (one : JobTree). TakesAll (number ∷ []) jobs (set jobs number one) told c.push_taken.new.taken.items) (sym took.0) takes)

pub push_taken-requires : goal.push_taken-requires
push_taken-requires c =
    let job = job_tree (get_or c.args.jobs.now c.args.number c.index-jobs-number.result) in
    told-runs c.args.number job.task job.standing c.in_ok-turn.turn c.in_ok-turn.ensures.takes.1 c.in_ok-make_room.ensures.room

pub returns-in_err-turn-clause-idle : goal.returns-in_err-turn-clause-idle
returns-in_err-turn-clause-idle c = idle-set c.args.jobs.now c.args.number c.turn.new.self c.index-jobs-number.result c.turn.ensures.idle

pub returns-clause-idle : goal.returns-clause-idle
returns-clause-idle c = idle-set c.args.jobs.now c.args.number c.turn.new.self c.index-jobs-number.result c.turn.ensures.idle
