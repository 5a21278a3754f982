use Rattle.bouquet_check.proofs.CalledSound.{sound-decided}
use Rattle.bouquet_check.proofs.law.sound_bouquets_are_called_sound.Goals as goal

pub returns : goal.returns
returns c = sound-decided
