use Rattle.contours.proofs.Foot.{climbed}
use Rattle.contours.proofs.lazy.LazyLadder.climb.Goals as goal

pub invariant_of-self-2 : goal.invariant_of-self-2
invariant_of-self-2 c =
    let made = rw c.in-Some.is at c.in_ok-found.ensures.made in
    climbed c.self.inside.maker c.next.new.self c.self.inside.hand c.in-Some.found.contour made.0 made.1 c.self.invariant

pub returns-clause-ladder : goal.returns-clause-ladder
returns-clause-ladder c =
    let made = rw c.in-Some.is at c.in_ok-found.ensures.made in
    climbed c.self.inside.maker c.next.new.self c.self.inside.hand c.in-Some.found.contour made.0 made.1 c.self.invariant
