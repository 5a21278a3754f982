use Rattle.std.proofs.Common.{◌≡◌, drop, map}
use Rattle.sql_values.specs.Dictionary.{has_text}
use Rattle.sql_bind.proofs.from.has_alias.Given as goal

abbrev pub invariant-loop-i : goal.invariant-loop-i
invariant-loop-i l = has_text (map (λ item. item.alias) l.items) l.alias ≡ has_text (map (λ item. item.alias) (drop l.i l.items)) l.alias
