use Rattle.std.specs.Prelude.{Contains, IfSome, IsTrue}
use Rattle.table_stats.specs.Narrow.{uses_some}
use Rattle.table_stats.specs.Ready.{own}
use Rattle.table_stats.proofs.indexes.narrowest.Given as goal

abbrev pub invariant-loop-index : goal.invariant-loop-index
invariant-loop-index l = IfSome l.found (λ index. Contains l.columns index × IsTrue (uses_some (own l.filter) index.column))
