-- The faults and the value of a field.
use Rattle.std.proofs.Common.{◌≡◌, ◌≢◌, ℕ, ◌≤◌, Bool, true, false, List, [], ◌∷◌, length, Some, None, refl, arith}
use Rattle.std.specs.Prelude.{◌==◌, nat_lt, not}
use Rattle.std.specs.Option.{option_or}
use borrow.Author.Tests.{ne_eqb}
use Rattle.std.proofs.lemmas.Bool.Decides.{nat_tests}
use Rattle.std.specs.Str.{is_utf8}
use Rattle.sql_values.specs.declared.value.Value.TheVariants as value
use Rattle.sql_values.specs.declared.column.ColumnType.TheVariants.{Varchar}
use Rattle.sql_values.specs.declared.column.ColumnDef.{ColumnDef}
use Rattle.sql_values.specs.Stored.{characters}
use Rattle.csv_load.specs.declared.place.Place.{Place}
use Rattle.csv_load.specs.declared.fault.LoadFault.TheVariants.{NullInNotNull, NotUtf8, TooLong}
use Rattle.csv_load.specs.Field.{field_fault, field_value, kind_value, fault_where, text_fault}

pub field_fault-null : (place : Place) (column : ColumnDef) (field : List ℕ) → length field ≡ 0 → column.not_null ≡ true
    → field_fault place column field ≡ Some (NullInNotNull place.entry place.field)
unfolding field_fault
field_fault-null place column [] e full = rw full refl
field_fault-null place column (b ∷ bs) e full = absurd (omega arith)

pub field_fault-empty : (place : Place) (column : ColumnDef) (field : List ℕ) → length field ≡ 0 → column.not_null ≡ false → field_fault place column field ≡ None
unfolding field_fault
field_fault-empty place column [] e takes = rw takes refl
field_fault-empty place column (b ∷ bs) e takes = absurd (omega arith)

pub field_value-empty : (column : ColumnDef) (field : List ℕ) → length field ≡ 0 → field_value column field ≡ value.Null
unfolding field_value
field_value-empty column [] e = refl
field_value-empty column (b ∷ bs) e = absurd (omega arith)

pub field_fault-some : (place : Place) (column : ColumnDef) (field : List ℕ) → length field ≢ 0 → field_fault place column field ≡ text_fault place column.kind field
unfolding field_fault
field_fault-some place column field some = let there : (length field == 0) ≡ false = ne_eqb _ _ some in rw there refl

pub field_value-some : (column : ColumnDef) (field : List ℕ) → length field ≢ 0 → field_value column field ≡ kind_value column.kind field
unfolding field_value
field_value-some column field some = let there : (length field == 0) ≡ false = ne_eqb _ _ some in rw there refl

-- a text without a fault is no longer than its column allows
pub text_fault-short : (place : Place) (most : ℕ) (text : List ℕ) → text_fault place (Varchar most) text ≡ None → characters text ≤ most
unfolding text_fault
text_fault-short place most text e = by (is_utf8 text) (nat_lt most (characters text)) refl e
  where
    by : (utf8 long : Bool) → nat_lt most (characters text) ≡ long
        → option_or (fault_where (not utf8) (NotUtf8 place.entry place.field)) (fault_where long (TooLong place.entry place.field)) ≡ None → characters text ≤ most
    by true true t e = cc e
    by true false t e = grind (arith, nat_tests)
    by false long t e = cc e

pub ruleset of_fields = (field_fault-null, field_fault-empty, field_value-empty, field_fault-some, field_value-some, text_fault-short)
