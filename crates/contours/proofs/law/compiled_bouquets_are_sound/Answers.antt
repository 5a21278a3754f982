use Rattle.bouquet_type.proofs.CompiledSound.{are-sound}
use Rattle.contours.proofs.law.compiled_bouquets_are_sound.Goals as goal

pub returns : goal.returns
returns c = are-sound
