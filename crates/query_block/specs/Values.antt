-- Which values fit the parameters of a block.
use Rattle.std.specs.Prelude.{◌≡◌, ℕ, ◌+◌, Bool, true, false, nat_eq, List, [], ◌∷◌, length, Some, None, Ok, Err, if◌then◌else◌}
use Rattle.std.specs.declared.option.Option.{Option}
use Rattle.std.specs.declared.result.Result.{Result}
use Rattle.sql_values.specs.declared.value.Value.{Value}
use Rattle.sql_values.specs.declared.value.Value.TheVariants as value
use Rattle.query_block.specs.declared.kind.Kind.{Kind}
use Rattle.query_block.specs.declared.kind.Kind.TheVariants as kind
use Rattle.query_block.specs.declared.values.ValueFault.{ValueFault}
use Rattle.query_block.specs.declared.values.ValueFault.TheVariants as fault

-- whether a value is of a kind; NULL is of none
abbrev pub is_of_kind : Kind → Value → Bool
is_of_kind of value.Null = false
is_of_kind kind.Integer (value.Int _) = true
is_of_kind kind.Text (value.Text _) = true
is_of_kind of other = false

-- the first value that isn't of its parameter's kind, by its place; the first of these has this place
abbrev pub misfit_from : (place : ℕ) → List Kind → List Value → Option ValueFault
misfit_from place [] values = None
misfit_from place (of ∷ kinds) [] = None
misfit_from place (of ∷ kinds) (v ∷ values) =
    if is_of_kind of v then misfit_from (place + 1) kinds values else Some (fault.Kind place)

-- what is wrong with values for parameters of these kinds: there are more or fewer, or one is of another kind
abbrev pub value_fault : List Kind → List Value → Option ValueFault
value_fault kinds values =
    if nat_eq (length values) (length kinds) then misfit_from 1 kinds values
    else Some (fault.Count (length values) (length kinds))

-- they fit: a value for each parameter, of its kind
abbrev pub FitValues : List Kind → List Value → Type 0
FitValues kinds values = value_fault kinds values ≡ None

-- the answer where this is wrong
abbrev pub due_of : Option ValueFault → Result (Unit {0}) ValueFault
due_of None = Ok tt
due_of (Some fault) = Err fault
