use Rattle.std.proofs.Common.{◌≡◌, All, take}
use Rattle.sql_values.specs.declared.column.ColumnType.TheVariants.{Integer}
use Rattle.result_text.proofs.ties.leading_integers.Given as goal

abbrev pub invariant-loop-place : goal.invariant-loop-place
invariant-loop-place l = All (λ kind. kind ≡ Integer) (take l.place l.kinds)
