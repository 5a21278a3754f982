-- What a field holds in a column, and what is wrong with it.
use Rattle.std.specs.Prelude.{ℕ, ◌==◌, Bool, not, ◌&&◌, nat_le, nat_lt, List, length, Option, Some, None, if◌then◌else◌}
use Rattle.std.specs.Option.{option_or}
use Rattle.std.specs.Str.{is_utf8, all_ascii_digits}
use Rattle.std.specs.Str.Parse.{digits_value, signed_digits_value, without_leading_sign}
use Rattle.sql_values.specs.declared.value.Value.{Value}
use Rattle.sql_values.specs.declared.value.Value.TheVariants as value
use Rattle.sql_values.specs.declared.column.ColumnType.{ColumnType}
use Rattle.sql_values.specs.declared.column.ColumnType.TheVariants.{Integer, Varchar}
use Rattle.sql_values.specs.declared.column.ColumnDef.{ColumnDef}
use Rattle.sql_values.specs.Stored.{characters}
use Rattle.csv_load.specs.declared.place.Place.{Place}
use Rattle.csv_load.specs.declared.fault.LoadFault.{LoadFault}
use Rattle.csv_load.specs.declared.fault.LoadFault.TheVariants.{NotUtf8, NotInteger, OutOfRange, NullInNotNull, TooLong}

-- the greatest INTEGER, 2^63 - 1; the least is its negation
abbrev pub greatest_integer : ℕ
greatest_integer = 9223372036854775807

-- one digit or more
abbrev pub are_digits : List ℕ → Bool
are_digits text = nat_le 1 (length text) && all_ascii_digits text

-- this fault, where it is there
abbrev pub fault_where : Bool → LoadFault → Option LoadFault
fault_where there fault = if there then Some fault else None

-- what keeps a text from being a value of this kind: an INTEGER is digits after a sign, which may be left out
abbrev pub kind_fault : Place → ColumnType → List ℕ → Option LoadFault
kind_fault place Integer text =
    let digits = without_leading_sign text in
    let past = nat_lt greatest_integer (digits_value 10 digits) in
    option_or (fault_where (not (are_digits digits)) (NotInteger place.entry place.field))
    (fault_where past (OutOfRange place.entry place.field))
kind_fault place (Varchar most) text =
    fault_where (nat_lt most (characters text)) (TooLong place.entry place.field)

-- the same, and before it, in a column of any kind, that it isn't UTF-8
unfoldable pub text_fault : Place → ColumnType → List ℕ → Option LoadFault
text_fault place kind text =
    let other = fault_where (not (is_utf8 text)) (NotUtf8 place.entry place.field) in
    option_or other (kind_fault place kind text)

-- what is wrong with a field of a column, at this place
unfoldable pub field_fault : Place → ColumnDef → List ℕ → Option LoadFault
field_fault place column field =
    let refused = fault_where column.not_null (NullInNotNull place.entry place.field) in
    if length field == 0 then refused else text_fault place column.kind field

-- the value that a text is in a column of this kind
abbrev pub kind_value : ColumnType → List ℕ → Value
kind_value Integer text = value.Int (signed_digits_value 10 text)
kind_value (Varchar _) text = value.Text text

-- the value of a field of a column: an empty one stands for NULL
unfoldable pub field_value : ColumnDef → List ℕ → Value
field_value column field = if length field == 0 then value.Null else kind_value column.kind field
