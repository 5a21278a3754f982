-- Three-valued truth, and what a comparison of two values comes to.
use Rattle.std.specs.Prelude.{Bool, true, false, ◌||◌, if◌then◌else◌}
use Rattle.std.specs.Ordering.{is_eq, is_ne, is_lt, is_le, is_gt, is_ge}
use Rattle.std.specs.declared.cmp.Ordering.{Ordering}
use Rattle.sql_values.specs.declared.op.Op.{Op}
use Rattle.sql_values.specs.declared.op.Op.TheVariants.{Eq, Ne, Lt, Le, Gt, Ge}
use Rattle.sql_values.specs.declared.truth.Truth.{Truth}
use Rattle.sql_values.specs.declared.truth.Truth.TheVariants.{True, False, Unknown}
use Rattle.sql_values.specs.declared.value.Value.{Value}
use Rattle.sql_values.specs.declared.value.Value.TheVariants as value
use Rattle.sql_values.specs.Order.{value_cmp}

-- AND
abbrev pub truth_and : Truth → Truth → Truth
truth_and True True = True
truth_and True False = False
truth_and True Unknown = Unknown
truth_and False True = False
truth_and False False = False
truth_and False Unknown = False
truth_and Unknown True = Unknown
truth_and Unknown False = False
truth_and Unknown Unknown = Unknown

-- OR
abbrev pub truth_or : Truth → Truth → Truth
truth_or True True = True
truth_or True False = True
truth_or True Unknown = True
truth_or False True = True
truth_or False False = False
truth_or False Unknown = Unknown
truth_or Unknown True = True
truth_or Unknown False = Unknown
truth_or Unknown Unknown = Unknown

-- NOT
abbrev pub truth_not : Truth → Truth
truth_not True = False
truth_not False = True
truth_not Unknown = Unknown

-- the truth of a test that is never unknown
abbrev pub certain : Bool → Truth
certain true = True
certain false = False

-- whether an operator holds of two values that are in this order
abbrev pub holds : Op → Ordering → Bool
holds Eq order = is_eq order
holds Ne order = is_ne order
holds Lt order = is_lt order
holds Le order = is_le order
holds Gt order = is_gt order
holds Ge order = is_ge order

abbrev pub is_null : Value → Bool
is_null value.Null = true
is_null (value.Int _) = false
is_null (value.Text _) = false

-- a comparison with NULL is unknown; else numbers compare by value and texts by their bytes
abbrev pub comparison : Op → Value → Value → Truth
comparison op a b = if is_null a || is_null b then Unknown else certain (holds op (value_cmp a b))

-- no number stands against a text
abbrev pub AreComparable : Value → Value → Type 0
AreComparable value.Null b = Unit {0}
AreComparable (value.Int _) value.Null = Unit {0}
AreComparable (value.Int _) (value.Int _) = Unit {0}
AreComparable (value.Int _) (value.Text _) = ⊥
AreComparable (value.Text _) value.Null = Unit {0}
AreComparable (value.Text _) (value.Int _) = ⊥
AreComparable (value.Text _) (value.Text _) = Unit {0}
