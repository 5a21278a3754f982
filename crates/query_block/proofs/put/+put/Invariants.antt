use Rattle.std.proofs.Common.{◌≡◌, map, take}
use Rattle.query_block.specs.Conditions.{filter_tree}
use Rattle.query_block.specs.Parameters.{put_condition}
use Rattle.query_block.proofs.put.+put.Given as goal

abbrev pub invariant-put_conditions-loop-i : goal.invariant-put_conditions-loop-i
invariant-put_conditions-loop-i l =
    map filter_tree l.put.items ≡ map (λ part. put_condition l.values (filter_tree part)) (take l.i l.parts)
