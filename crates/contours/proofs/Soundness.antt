-- The compiled bouquet is sound.
use Rattle.std.proofs.Common.{ℕ}
use Rattle.cost_model.specs.Costing.{CostingTree, IsCosting}
use Rattle.bouquet_type.specs.Compiled.{compiled}
use Rattle.bouquet_type.specs.Sound.{IsSound}
use Rattle.bouquet_type.proofs.CompiledSound.{are-sound}
use Rattle.contours.proofs.Count.{compiled-is}

pub compiled-sound : (costing : CostingTree) (threshold : ℕ) → IsCosting costing → IsSound (compiled costing threshold)
unfolding compiled
compiled-sound costing threshold is = are-sound (compiled costing threshold) is (compiled-is costing threshold is)
