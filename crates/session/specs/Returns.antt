-- What statements return and pay, held against what is due to them.
use Rattle.std.specs.Prelude.{◌≡◌, ℕ, ◌+◌, ◌≤◌, ⊤, Result, Ok, Err, Vec}
use Rattle.std.specs.declared.alloc.Global.{Global}
use Rattle.workspace.specs.declared.stop.Stop.{Stop}
use Rattle.workspace.specs.declared.stop.Stop.TheVariants as stop
use Rattle.workspace.specs.Outcome.{Outcome, Prints, Refuses, refused_work}
use Rattle.workspace.specs.World.{World}

-- what is returned is what is due: a text, whose work was paid, and the state after it; or a refusal, for which the work
-- that it prints was paid
abbrev pub ReturnsDue : Outcome → Result (Vec ℕ Global) Stop → World → (before after : ℕ) → Type 0
ReturnsDue due (Ok text) world old new = (work : ℕ) × (due ≡ Prints text.items work world) × (new ≡ old + work)
ReturnsDue due (Err (stop.Refused why)) world old new = (due ≡ Refuses why) × (new ≡ old + refused_work why)
ReturnsDue due (Err stop.NoMemory) world old new = ⊤

-- at most so much was paid
pub record PaysAtMost (most old new : ℕ) : Type 0 where
  pub never_falls : old ≤ new
  pub within : new ≤ old + most
