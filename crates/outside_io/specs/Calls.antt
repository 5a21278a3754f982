-- Calls that fail by their numbers.
use Rattle.std.specs.Prelude.{ℕ, ◌+◌, ◌==◌, List, Bool, if◌then◌else◌}
use Rattle.std.specs.List.{list_any}
use Rattle.outside_io.specs.Count.{raised}

-- the numbers of the calls that are to fail, from 1; how many calls were made, and how many failed
pub record Calls : Type 0 where
  pub fails : List ℕ
  pub made : ℕ
  pub failed : ℕ

-- before the first call
abbrev pub no_calls : List ℕ → Calls
no_calls fails = record { fails = fails; made = 0; failed = 0 }

-- whether the next call is among those that are to fail
abbrev pub fails_next : Calls → Bool
fails_next calls = list_any (λ number. number == calls.made + 1) calls.fails

-- one call more
abbrev pub after_call : Calls → Calls
after_call calls = record {
  fails = calls.fails;
  made = raised calls.made;
  failed = if fails_next calls then raised calls.failed else calls.failed;
}
