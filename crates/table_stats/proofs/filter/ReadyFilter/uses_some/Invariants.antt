use Rattle.std.proofs.Common.{◌≡◌, drop, map}
use Rattle.std.specs.List.{list_any}
use Rattle.plan_tree.specs.Usable.{is_usable}
use Rattle.table_stats.specs.Narrow.{uses_some}
use Rattle.table_stats.specs.Ready.{own, own_tree}
use Rattle.table_stats.proofs.filter.ReadyFilter.uses_some.Given as goal

abbrev pub invariant-loop-conjunct : goal.invariant-loop-conjunct
invariant-loop-conjunct l =
    uses_some (own l.self) l.column ≡ list_any (is_usable l.self.relation.now.columns l.column) (map own_tree (drop l.conjunct-index l.conjunct-items))
