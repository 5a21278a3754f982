-- What a statement returns that costs nothing, held against what is due to it.
use Rattle.std.specs.Prelude.{◌≡◌, ℕ, Result, Ok, Err, Vec}
use Rattle.std.specs.declared.alloc.Global.{Global}
use Rattle.workspace.specs.declared.stop.Stop.{Stop}
use Rattle.workspace.specs.Outcome.{Outcome, Prints}
use Rattle.workspace.specs.Stop.{StopsAt}
use Rattle.workspace.specs.World.{World}

-- what is returned is what is due, and costs no work: a text and the state after it, or a refusal
abbrev pub ReturnsFree : Outcome → Result (Vec ℕ Global) Stop → World → Type 0
ReturnsFree due (Ok text) world = due ≡ Prints text.items 0 world
ReturnsFree due (Err why) world = StopsAt due why
