use Rattle.std.proofs.Common.{◌≡◌, map, take}
use Rattle.query_block.specs.Parameters.{put_operand}
use Rattle.query_block.proofs.put.put_operands.Given as goal

abbrev pub invariant-loop-i : goal.invariant-loop-i
invariant-loop-i l = l.put.items ≡ map (put_operand l.values) (take l.i l.operands)
