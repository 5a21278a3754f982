-- The order of values: NULL first, then numbers by value, then texts by their bytes.
use Rattle.std.specs.Prelude.{◌≡◌, ◌↔◌}
use Rattle.std.specs.Ordering.{nat_cmp, int_cmp}
use Rattle.std.specs.Cmp.Lexicographic.{slice_cmp}
use Rattle.std.specs.declared.cmp.Ordering.{Ordering}
use Rattle.std.specs.declared.cmp.Ordering.TheVariants.{Less, Equal, Greater}
use Rattle.sql_values.specs.declared.value.Value.{Value}
use Rattle.sql_values.specs.declared.value.Value.TheVariants as value

-- which of two values comes first
abbrev pub value_cmp : Value → Value → Ordering
value_cmp value.Null value.Null = Equal
value_cmp value.Null (value.Int y) = Less
value_cmp value.Null (value.Text y) = Less
value_cmp (value.Int x) value.Null = Greater
value_cmp (value.Int x) (value.Int y) = int_cmp x y
value_cmp (value.Int x) (value.Text y) = Less
value_cmp (value.Text x) value.Null = Greater
value_cmp (value.Text x) (value.Int y) = Greater
value_cmp (value.Text x) (value.Text y) = slice_cmp nat_cmp x y

-- two values are equal by this order exactly where they are the same
abbrev pub SameWhereEqual : (Value → Value → Ordering) → Type 0
SameWhereEqual cmp = (a b : Value) → (cmp a b ≡ Equal) ↔ (a ≡ b)
