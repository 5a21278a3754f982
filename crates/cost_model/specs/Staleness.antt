-- Counts that aren't what they were.
use Rattle.std.specs.Prelude.{◌≡◌, ℕ, nat_eq, List, codes, Option, Some, None, Result, OnOk, IfErr, if◌then◌else◌}
use Rattle.cost_model.specs.declared.stale.CountName.{CountName}
use Rattle.cost_model.specs.declared.stale.CountName.TheVariants as count
use Rattle.cost_model.specs.declared.stale.Stale.{Stale}

-- the word by which a count is printed and written
abbrev pub count_word : CountName → List ℕ
count_word count.Rows = codes "rows"
count_word count.Kept = codes "kept"
count_word count.Indexes = codes "indexes"

-- a count that isn't what it was
abbrev pub changed : (relation : ℕ) → CountName → (kept present : ℕ) → Option Stale
changed relation name kept present =
    if nat_eq kept present then None else Some (record { relation = relation; count = name; kept = kept; present = present })

-- a call is refused with what is found, and only then
pub record RefusesFirst {T : Type 0} (found : Option Stale) (result : Result T Stale) : Type 0 where
  pub answered : OnOk result (found ≡ None)
  pub refused : IfErr result (λ stale. found ≡ Some stale)
