use Rattle.std.proofs.Common.{◌≡◌, ◌++◌, drop}
use Rattle.sql_bind.specs.Binding.{columns_from}
use Rattle.sql_bind.proofs.projection.push_columns.Given as goal

abbrev pub invariant-loop-number : goal.invariant-loop-number
invariant-loop-number l =
    l.fn.places.items ++ columns_from l.relation 0 l.columns ≡ l.places.items ++ columns_from l.relation l.number (drop l.number l.columns)
