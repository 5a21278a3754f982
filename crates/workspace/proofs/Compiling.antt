-- What is due to COMPILE, where neither its name nor its numbers are refused, and the state that it leaves.
use Rattle.std.proofs.Common.{◌≡◌, ◌∙◌, ℕ, List, [], ◌∷◌, ◌++◌, map, Option, None, sym, ap}
use Rattle.std.specs.Prelude.{Err, codes, unwrap_or}
use Rattle.std.proofs.lemmas.List.{map-append}
use Rattle.sql_values.specs.Steps.{Checked, pure, ◌>>=◌}
use Rattle.sql_values.specs.Limits.{default_threshold}
use Rattle.sql_parse.specs.Canonical.{canonical_query}
use Rattle.sql_parse.specs.Trees.{QueryTree}
use Rattle.bouquet_type.specs.Trees.{BouquetTree}
use Rattle.db_catalog.specs.Database.{DatabaseState}
use Rattle.workspace.specs.Bouquets.{bouquet_due, kept_as}
use Rattle.workspace.specs.Compile.{compile_outcome, levels_refusal, threshold_refusal}
use Rattle.workspace.specs.States.{NamedShape, named_of, world_of}
use Rattle.workspace.specs.Outcome.{Outcome, Refuses, outcome_of}
use Rattle.workspace.specs.Stop.{StopsAt, StopsWhere}
use Rattle.workspace.specs.declared.refusal.Refusal.{Refusal}
use Rattle.workspace.specs.declared.stop.Stop.{Stop}
use Rattle.workspace.specs.World.{World, named_in}
use Rattle.workspace.proofs.Stopping.{stops_so}

-- its query's bouquet is kept, where that is due
abbrev pub kept : World → (name : List ℕ) → QueryTree → Checked Refusal BouquetTree → Outcome
kept world name query due = outcome_of do
  bouquet ← due
  pure (kept_as (codes "-- compile points=") world name (canonical_query query) bouquet)

-- what its query's bouquet is decides
pub unrefused : (world : World) (name : List ℕ) (levels threshold : Option ℕ) (percent : ℕ) (query : QueryTree) → named_in name world.bouquets ≡ None → levels_refusal levels ≡ None → threshold_refusal threshold ≡ None
    → percent ≡ unwrap_or threshold default_threshold
    → compile_outcome world name levels threshold query ≡ kept world name query (bouquet_due world.database query levels percent)
unrefused world name levels threshold percent query free low small is =
    rw (free, low, small) (ap (λ n. kept world name query (bouquet_due world.database query levels n)) (sym is))

-- without what is due a statement stops
pub stops : (world : World) (name : List ℕ) (query : QueryTree) (due : Checked Refusal BouquetTree) (why : Stop) → StopsWhere (λ found. due ≡ Err found) why → StopsAt (kept world name query due) why
stops world name query due why none = stops_so (λ found. due ≡ Err found) (λ found. kept world name query due ≡ Refuses found) (λ found is. ap (kept world name query) is) why none

-- the state with a bouquet more
pub world_kept : (database : DatabaseState) (old new : List NamedShape) (kept : NamedShape) → new ≡ old ++ kept ∷ []
    → record { database = database; bouquets = map named_of old ++ named_of kept ∷ [] } ≡ world_of (record { database = database; bouquets = new })
world_kept database old new kept is =
    let bouquets : map named_of new ≡ map named_of old ++ named_of kept ∷ [] = ap (map named_of) is ∙ map-append named_of old (kept ∷ []) in
    ap (λ named. record { database = database; bouquets = named }) (sym bouquets)
