use Rattle.std.proofs.Common.{◌||◌, Bool, map, take}
use Rattle.sql_values.specs.Stored.{ValueRow}
use Rattle.query_block.specs.Conditions.{Or, chain, filter_tree}
use Rattle.query_block.specs.Meaning.{is_true}
use Rattle.query_block.specs.Truth.{truth_of}
use Rattle.row_filter.specs.InLists.{IsInListOf}
use Rattle.row_filter.proofs.listed.list_parts.Given as goal

-- the words of the parts before are put to the others
abbrev pub invariant-loop-part : goal.invariant-loop-part
invariant-loop-part l =
    (test : ValueRow → Bool) → IsInListOf l.texts l.columns test l.initial.list
    → IsInListOf l.texts l.columns (λ row. test row || is_true (truth_of (Or (chain (map filter_tree (take l.part-index l.parts)))) row)) l.list
