use Rattle.std.proofs.Common.{◌≡◌, drop, map}
use Rattle.query_block.specs.Conditions.{chain, filter_tree}
use Rattle.query_block.specs.Parameters.{is_any_open}
use Rattle.query_block.proofs.open.+open.Given as goal

abbrev pub invariant-is_any_open-loop-part : goal.invariant-is_any_open-loop-part
invariant-is_any_open-loop-part l =
    is_any_open (chain (map filter_tree l.parts)) ≡ is_any_open (chain (map filter_tree (drop l.part-index l.parts)))
