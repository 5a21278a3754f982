use Rattle.std.proofs.Common.{◌≡◌, drop, map}
use Rattle.std.specs.List.{AllZip}
use Rattle.sql_values.specs.Stored.{values_of}
use Rattle.query_block.specs.Conditions.{filter_tree}
use Rattle.query_block.specs.Meaning.{meets_filter}
use Rattle.row_filter.specs.InLists.{IsConditionRecheck}
use Rattle.row_filter.proofs.recheck.FilterRecheck.meets.Given as goal

-- the conditions that aren't asked yet decide
abbrev pub invariant-loop-place : goal.invariant-loop-place
invariant-loop-place l =
    let row = values_of l.texts l.columns l.row in record {
      each : AllZip (IsConditionRecheck l.texts l.columns) (map filter_tree l.filter) l.self.conditions.items;
      left : meets_filter (map filter_tree l.filter) row ≡ meets_filter (map filter_tree (drop l.place l.filter)) row;
    }
