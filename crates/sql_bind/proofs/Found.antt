-- What a look-up has found tells which columns there are.
use Rattle.std.proofs.Common.{◌≡◌, List, [], ◌∷◌, Option, Some, None, refl, sym, ap, fold}
use Rattle.query_block.specs.declared.edge.ColumnAt.{ColumnAt}
use Rattle.sql_parse.specs.declared.tree.ColRef.{ColRef}
use Rattle.sql_bind.specs.declared.fault.BindFault.{BindFault}
use Rattle.sql_bind.specs.declared.fault.BindFault.TheVariants.{UnknownColumn, Ambiguous}
use Rattle.sql_bind.specs.declared.names.NamedColumns.{NamedColumns}
use Rattle.sql_bind.specs.declared.names.NamedColumns.TheVariants.{Nothing, One, Several}
use Rattle.sql_bind.specs.Names.{named_once, the_one, written_name}
use Rattle.sql_bind.specs.Refused.{added}

-- what is refused of a column, and where it is, by what was found of it
abbrev pub fault_found : ColRef → NamedColumns → Option BindFault
fault_found written Nothing = Some (UnknownColumn (written_name written))
fault_found written (One place) = None
fault_found written Several = Some (Ambiguous written.column)

abbrev pub place_found : NamedColumns → Option ColumnAt
place_found (One place) = Some place
place_found other = None

several : (places : List ColumnAt) → fold added Several places ≡ Several
several [] = refl
several (other ∷ places) = several places

pub fault-found : (written : ColRef) (places : List ColumnAt) → named_once written places ≡ fault_found written (fold added Nothing places)
fault-found written [] = refl
fault-found written (place ∷ []) = refl
fault-found written (place ∷ other ∷ more) = sym (ap (fault_found written) (several more))

pub place-found : (places : List ColumnAt) → the_one places ≡ place_found (fold added Nothing places)
place-found [] = refl
place-found (place ∷ []) = refl
place-found (place ∷ other ∷ more) = sym (ap place_found (several more))
