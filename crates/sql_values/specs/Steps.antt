-- Checks one after another, over any fault: each gives a value, or the first fault ends them.
use Rattle.std.specs.Prelude.{ℕ, ◌+◌, ⊤, Bool, true, false, List, [], ◌∷◌, Option, Some, None, Result, Ok, Err}

-- a value, or the first fault
abbrev pub Checked : (Fault A : Type 0) → Type 0
Checked Fault A = Result A Fault

abbrev pub pure : {Fault A : Type 0} → A → Checked Fault A
pure value = Ok value

infixl 10 ◌>>=◌
infixl 10 ◌>>◌
-- the next check has the value of the one before
abbrev pub ◌>>=◌ : {Fault A B : Type 0} → Checked Fault A → (A → Checked Fault B) → Checked Fault B
◌>>=◌ (Ok value) next = next value
◌>>=◌ (Err why) next = Err why

abbrev pub ◌>>◌ : {Fault A B : Type 0} → Checked Fault A → Checked Fault B → Checked Fault B
◌>>◌ (Ok value) next = next
◌>>◌ (Err why) next = Err why

-- what has to be there
abbrev pub need : {Fault A : Type 0} → Fault → Option A → Checked Fault A
need why (Some value) = Ok value
need why None = Err why

-- what has to be so
abbrev pub check : {Fault : Type 0} → Fault → Bool → Checked Fault ⊤
check why true = Ok tt
check why false = Err why

-- each item with its number read, the first of which has this number
abbrev pub each : {Fault X A : Type 0} → (ℕ → X → Checked Fault A) → (number : ℕ) → List X → Checked Fault (List A)
each read number [] = pure []
each read number (item ∷ more) = do
  first ← read number item
  others ← each read (number + 1) more
  pure (first ∷ others)
