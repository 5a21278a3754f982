use Rattle.std.proofs.Common.{◌≡◌, drop, map}
use Rattle.query_block.specs.Conditions.{filter_tree}
use Rattle.query_block.specs.Cells.{row_values}
use Rattle.query_block.specs.Meaning.{meets_filter}
use Rattle.query_block.proofs.evaluate.meets_filter.Given as goal

abbrev pub invariant-loop-conjunct : goal.invariant-loop-conjunct
invariant-loop-conjunct l =
    meets_filter (map filter_tree l.filter) (row_values l.lent) ≡ meets_filter (map filter_tree (drop l.conjunct-index l.filter)) (row_values l.lent)
