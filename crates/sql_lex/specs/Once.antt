-- How many there are of what a rule allows.
use Rattle.std.specs.Prelude.{◌≡◌}

abbrev pub AtLeastOne : {A : Type 0} → (A → Type 0) → Type 0
AtLeastOne {A} Allowed = (one : A) × Allowed one

abbrev pub AtMostOne : {A : Type 0} → (A → Type 0) → Type 0
AtMostOne {A} Allowed = (one other : A) → Allowed one → Allowed other → one ≡ other
