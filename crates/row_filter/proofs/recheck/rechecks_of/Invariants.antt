use Rattle.std.proofs.Common.{map, take}
use Rattle.std.specs.List.{AllZip}
use Rattle.query_block.specs.Conditions.{filter_tree}
use Rattle.row_filter.specs.InLists.{IsConditionRecheck}
use Rattle.row_filter.proofs.recheck.rechecks_of.Given as goal

abbrev pub invariant-loop-condition : goal.invariant-loop-condition
invariant-loop-condition l = AllZip (IsConditionRecheck l.texts l.columns) (map filter_tree (take l.condition-index l.filter)) l.found.items
