-- What reading takes from a source.
use Rattle.std.specs.Prelude.{◌≡◌, ℕ, ◌≤◌, List, drop, Option, Some}

-- of these bytes no more than so many are no longer left
abbrev pub TakesAtMost : ℕ → Option (List ℕ) → List ℕ → Type 0
TakesAtMost most left bytes = (n : ℕ) × (n ≤ most) × (left ≡ Some (drop n bytes))
