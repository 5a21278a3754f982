use Rattle.std.proofs.Common.{arith}
use Rattle.std.proofs.lemmas.Grind.{common_steps}
use Rattle.bouquet_check.proofs.CalledSound.{sound-decided}
use Rattle.bouquet_check.proofs.checked.check.Goals as goal

pub returns-clause-sound : goal.returns-clause-sound
returns-clause-sound c = grind (arith, common_steps, sound-decided)
