use Rattle.std.proofs.Common.{map, take}
use Rattle.query_block.specs.Conditions.{filter_tree}
use Rattle.row_filter.specs.RowFilters.{IsRowFilter}
use Rattle.row_filter.proofs.filter.RowFilter.new.Given as goal

-- it is the filter of the conditions before
abbrev pub invariant-loop-condition : goal.invariant-loop-condition
invariant-loop-condition l = IsRowFilter l.texts l.columns (map filter_tree (take l.condition-index l.conditions)) l.filter
