use Rattle.bouquet_type.proofs.Climbing.{kept-climbed}
use Rattle.bouquet_type.specs.Kept.{KeptState}
use Rattle.bouquet_type.proofs.kept.KeptLadder.climb.Goals as goal

pub invariant_of-self : goal.invariant_of-self
invariant_of-self c =
    let k : KeptState = record { bouquet = c.self.inside.bouquet.now; ahead = c.self.inside.ahead.now; plans = c.self.inside.plans.now; cost = c.self.inside.cost } in
    rw c.as_slice-self-inside.ensures.value (kept-climbed k c.contour-item.result c.self.invariant c.in-len1-up.len_at_least c.contour-item.is)

pub returns-clause-ladder : goal.returns-clause-ladder
returns-clause-ladder c =
    let k : KeptState = record { bouquet = c.self.inside.bouquet.now; ahead = c.self.inside.ahead.now; plans = c.self.inside.plans.now; cost = c.self.inside.cost } in
    rw c.as_slice-self-inside.ensures.value (kept-climbed k c.contour-item.result c.self.invariant c.in-len1-up.len_at_least c.contour-item.is)
