use Rattle.std.proofs.Common.{◌≡◌, ◌++◌, drop}
use Rattle.std.specs.List.{filter_map}
use Rattle.sql_bind.specs.Names.{place_of, first_fault_among, written_column_fault}
use Rattle.sql_bind.proofs.projection.places_of.Given as goal

abbrev pub invariant-loop-i : goal.invariant-loop-i
invariant-loop-i l =
    (first_fault_among (written_column_fault l.scope) l.columns ≡ first_fault_among (written_column_fault l.scope) (drop l.i l.columns))
    × (filter_map (place_of l.scope) l.columns ≡ l.places.items ++ filter_map (place_of l.scope) (drop l.i l.columns))
