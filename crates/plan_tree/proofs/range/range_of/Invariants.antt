use Rattle.std.proofs.Common.{◌≡◌, ◌&&◌, List, All, map, filter, drop}
use Rattle.sql_values.specs.declared.column.ColumnType.{ColumnType}
use Rattle.sql_values.specs.Words.{word_of}
use Rattle.sql_values.specs.Stored.{ValueRow}
use Rattle.query_block.specs.declared.kind.Kind.{Kind}
use Rattle.query_block.specs.Blocks.{kind_at, FitsColumns}
use Rattle.query_block.specs.Conditions.{filter_tree}
use Rattle.query_block.specs.Truth.{value_at}
use Rattle.query_block.specs.Meaning.{meets_filter}
use Rattle.plan_tree.specs.Usable.{is_fixed_usable}
use Rattle.plan_tree.specs.Ranges.{is_in}
use Rattle.query_block.specs.Picked.{IsStored}
use Rattle.plan_tree.proofs.range.range_of.Given as goal

-- what is in the range and meets the conjuncts that aren't looked at meets all
abbrev pub invariant-loop-conjunct : goal.invariant-loop-conjunct
invariant-loop-conjunct l =
    (kinds : List Kind) (columns : List ColumnType) → All (FitsColumns kinds columns) (map filter_tree l.conjuncts) → (row : ValueRow)
    → IsStored l.texts (kind_at columns l.column) (value_at row l.column)
    → (is_in l.range (word_of l.texts (value_at row l.column)) && meets_filter (filter (is_fixed_usable columns l.column) (map filter_tree (drop l.conjunct-index l.conjuncts))) row)
    ≡ meets_filter (filter (is_fixed_usable columns l.column) (map filter_tree l.conjuncts)) row
