use Rattle.std.proofs.Common.{refl}
use Rattle.bouquet_type.proofs.Climbing.{ladder-foot}
use Rattle.bouquet_type.proofs.kept.Kept.new.Goals as goal

pub invariant_of-result : goal.invariant_of-result
invariant_of-result c = rw c.contours.ensures.contours (ladder-foot c.args.bouquet.now c.contours.ensures.bouquet)

pub returns-clause-foot : goal.returns-clause-foot
returns-clause-foot c = rw c.contours.ensures.contours (record { ladder = ladder-foot c.args.bouquet.now c.contours.ensures.bouquet; foot = refl })
