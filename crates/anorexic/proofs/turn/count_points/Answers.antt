use Rattle.std.proofs.Common.{length, take, arith}
use Rattle.std.proofs.lemmas.List.{get_or_default, length-take-le}
use Rattle.std.proofs.lemmas.List.Sums.{count_by-le-length}
use Rattle.anorexic.specs.Turns.{is_marked}
use Rattle.anorexic.proofs.turn.count_points.Goals as goal

pub count_point-requires-clause-room : goal.count_point-requires-clause-room
count_point-requires-clause-room c = λ k d below.
    let counts = c.loop-place.counts in
    let places = take c.loop-place.place-index c.args.uncovered.now in
    let few = length-take-le c.loop-place.place-index c.args.uncovered.now (omega arith) in
    let counted = count_by-le-length (is_marked c.args.table.now (length counts) k) places in
    omega (arith, get_or_default counts k d 0 below, c.loop-place.invariant.0 k below, counted, few)
