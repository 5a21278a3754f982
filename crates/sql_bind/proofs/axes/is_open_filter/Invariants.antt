use Rattle.std.proofs.Common.{◌≡◌, drop, map}
use Rattle.std.specs.List.{list_any}
use Rattle.query_block.specs.Conditions.{filter_tree}
use Rattle.query_block.specs.Parameters.{is_open}
use Rattle.sql_bind.proofs.axes.is_open_filter.Given as goal

abbrev pub invariant-loop-conjunct : goal.invariant-loop-conjunct
invariant-loop-conjunct l = list_any is_open (map filter_tree l.filter) ≡ list_any is_open (map filter_tree (drop l.conjunct-index l.filter))
