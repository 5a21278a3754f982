-- What comes of COMPILE.
use Rattle.std.specs.Prelude.{ℕ, ◌||◌, nat_lt, List, Option, Some, None, codes, unwrap_or, if◌then◌else◌}
use Rattle.sql_values.specs.Steps.{pure, ◌>>=◌, ◌>>◌}
use Rattle.sql_values.specs.Limits.{min_levels, max_levels, max_threshold, default_threshold}
use Rattle.sql_values.specs.declared.limit.LimitName.TheVariants as limit
use Rattle.sql_parse.specs.Trees.{QueryTree}
use Rattle.sql_parse.specs.Canonical.{canonical_query}
use Rattle.workspace.specs.Bouquets.{bouquet_due, kept_as}
use Rattle.workspace.specs.declared.refusal.Refusal.{Refusal}
use Rattle.workspace.specs.declared.refusal.Refusal.TheVariants as refusal
use Rattle.workspace.specs.Outcome.{Outcome, outcome_of, unless}
use Rattle.workspace.specs.World.{World, named_in}

-- levels that no axis has
abbrev pub levels_refusal : (levels : Option ℕ) → Option Refusal
levels_refusal None = None
levels_refusal (Some given) =
    if nat_lt given min_levels || nat_lt max_levels given then Some (refusal.PastLimit limit.Levels given) else None

-- a threshold that is too great
abbrev pub threshold_refusal : (threshold : Option ℕ) → Option Refusal
threshold_refusal None = None
threshold_refusal (Some given) = if nat_lt max_threshold given then Some (refusal.PastLimit limit.Threshold given) else None

-- the bouquet that is due is kept under a free name, with the canonical text of its query
abbrev pub compile_outcome : World → (name : List ℕ) → (levels threshold : Option ℕ) → QueryTree → Outcome
compile_outcome world name levels threshold query = outcome_of do
  unless (λ named. refusal.NameTaken name) (named_in name world.bouquets)
  unless (λ why. why) (levels_refusal levels)
  unless (λ why. why) (threshold_refusal threshold)
  bouquet ← bouquet_due world.database query levels (unwrap_or threshold default_threshold)
  pure (kept_as (codes "-- compile points=") world name (canonical_query query) bouquet)
