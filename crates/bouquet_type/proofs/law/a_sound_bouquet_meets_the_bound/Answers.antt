use Rattle.bouquet_type.proofs.Bound.{bound}
use Rattle.bouquet_type.proofs.law.a_sound_bouquet_meets_the_bound.Goals as goal

pub returns : goal.returns
returns c = bound
