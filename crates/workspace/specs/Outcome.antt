-- What comes of a statement.
use Rattle.std.specs.Prelude.{◌≡◌, ℕ, ⊤, true, List, Option, None, Some, Result, Ok, Err, OnOk, IfErr}
use Rattle.sql_values.specs.Steps.{Checked}
use Rattle.workspace.specs.World.{World}
use Rattle.workspace.specs.declared.refusal.Refusal.{Refusal}
use Rattle.workspace.specs.declared.refusal.Refusal.TheVariants as refusal

-- a statement prints a text for some work and leaves a state; or a file of this name is written, nothing is printed and the
-- state stays; or it is refused
pub data Outcome : Type 0 where
  Prints : List ℕ → ℕ → World → Outcome
  Saves : (name bytes : List ℕ) → Outcome
  Refuses : Refusal → Outcome

-- the work that was paid when a refusal comes: that which its line prints, where the book has it
abbrev pub refused_work : Refusal → ℕ
refused_work (refusal.PastWork spent true) = spent
refused_work why = 0

-- a call is refused so, which costs nothing, and only then
pub record RefusesFound {T : Type 0} (found : Option Refusal) (result : Result T Refusal) : Type 0 where
  pub answered : OnOk result (found ≡ None)
  pub refused : IfErr result (λ why. (found ≡ Some why) × (refused_work why ≡ 0))

-- nothing speaks against it; or it is refused, as a fault is told
abbrev pub unless : {Fault : Type 0} → (Fault → Refusal) → Option Fault → Checked Refusal ⊤
unless told None = Ok tt
unless told (Some fault) = Err (told fault)

-- a value; or it is refused, as a fault is told
abbrev pub or_refused : {Fault A : Type 0} → (Fault → Refusal) → Checked Fault A → Checked Refusal A
or_refused told (Ok value) = Ok value
or_refused told (Err fault) = Err (told fault)

-- what comes of a statement whose checks end so
abbrev pub outcome_of : Checked Refusal Outcome → Outcome
outcome_of (Ok outcome) = outcome
outcome_of (Err why) = Refuses why
