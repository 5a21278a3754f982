use Rattle.std.proofs.Common.{◌≡◌, [], All, drop, map, take}
use Rattle.sql_bind.specs.Binding.{named_table, from_fault}
use Rattle.sql_bind.specs.Named.{IsNamed}
use Rattle.sql_bind.proofs.from.named_tables.Given as goal

abbrev pub invariant-loop-i : goal.invariant-loop-i
invariant-loop-i l =
    (from_fault l.database [] l.items ≡ from_fault l.database (map (λ item. item.alias) (take l.i l.items)) (drop l.i l.items))
    × (l.tables.items ≡ map (named_table l.database) (take l.i l.items))
    × All IsNamed l.tables.items
