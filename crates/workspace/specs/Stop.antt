-- A stop, held against what is due to the statement.
use Rattle.std.specs.Prelude.{◌≡◌, ◌≢◌, ⊤}
use Rattle.workspace.specs.declared.stop.Stop.{Stop}
use Rattle.workspace.specs.declared.stop.Stop.TheVariants as stop
use Rattle.workspace.specs.declared.refusal.Refusal.{Refusal}
use Rattle.ess_grid.specs.declared.fault.GridFault.{GridFault}
use Rattle.ess_grid.specs.declared.fault.GridFault.TheVariants as grid
use Rattle.table_stats.specs.declared.fault.StatsFault.{StatsFault}
use Rattle.table_stats.specs.declared.fault.StatsFault.TheVariants as counts
use Rattle.sql_values.specs.declared.limit.LimitName.TheVariants as limit
use Rattle.workspace.specs.declared.refusal.Refusal.TheVariants as refusal
use Rattle.workspace.specs.Outcome.{Outcome, Refuses, refused_work}

-- a refusal is such a one, and costs nothing; out of memory fits anything
abbrev pub StopsWhere : (Refusal → Type 0) → Stop → Type 0
StopsWhere holds (stop.Refused why) = holds why × (refused_work why ≡ 0)
StopsWhere holds stop.NoMemory = ⊤

-- it is the one that is due
abbrev pub StopsAt : Outcome → Stop → Type 0
StopsAt due why = StopsWhere (λ found. due ≡ Refuses found) why

-- a fault is told as its refusal; out of memory refuses nothing
pub record TellsFault {F : Type 0} (none : F) (told : F → Refusal) (fault : F) (why : Stop) : Type 0 where
  pub memory : fault ≡ none → why ≡ stop.NoMemory
  pub refused : fault ≢ none → why ≡ stop.Refused (told fault)

abbrev pub stop_of_grid : GridFault → Stop
stop_of_grid (grid.BadLevels given) = stop.Refused (refusal.PastLimit limit.Levels given)
stop_of_grid (grid.TooManyPoints points) = stop.Refused (refusal.PastLimit limit.Points points)

abbrev pub stop_of_counts : StatsFault → Stop
stop_of_counts (counts.ProductLimit value) = stop.Refused (refusal.PastLimit limit.Product value)
stop_of_counts counts.NoMemory = stop.NoMemory
