use Rattle.std.proofs.Common.{arith}
use Rattle.std.proofs.lemmas.Grind.{common_steps}
use Rattle.std.proofs.lemmas.Simd.{map-map}
use Rattle.query_block.proofs.put.put_relation.Goals as goal

pub returns : goal.returns
returns c = grind (arith, common_steps, map-map)
