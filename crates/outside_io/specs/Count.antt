-- Counts of what went wrong outside.
use Rattle.std.specs.Prelude.{◌≡◌, ℕ, ◌+◌, ◌-◌, ◌^◌, ◌≤◌, min}

-- the count one higher; it ends at 2^64 - 1
abbrev pub raised : ℕ → ℕ
raised count = min (count + 1) (2 ^ 64 - 1)

-- the count rose, or it stands at its end
abbrev pub Rose : ℕ → ℕ → Type 0
Rose before after = raised before ≤ after

-- a count never falls, and it rose where what it counts was met
pub record HasCause (met : Type 0) (before after : ℕ) : Type 0 where
  pub rose : met → Rose before after
  pub never_falls : before ≤ after

-- a count rises by one where what it counts was met, and else stays; it never falls
pub record CountsEach (met : Type 0) (before after : ℕ) : Type 0 where
  pub counted : met → after ≡ raised before
  pub kept : ¬ met → after ≡ before
  pub never_falls : before ≤ after
