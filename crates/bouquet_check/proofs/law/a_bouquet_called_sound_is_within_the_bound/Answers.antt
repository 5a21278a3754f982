use Rattle.bouquet_type.proofs.Bound.{bound}
use Rattle.bouquet_check.proofs.CalledSound.{called-sound}
use Rattle.bouquet_check.proofs.law.a_bouquet_called_sound_is_within_the_bound.Goals as goal

pub returns : goal.returns
returns c = λ bouquet work is plans called. bound bouquet work plans (called-sound bouquet is called)
