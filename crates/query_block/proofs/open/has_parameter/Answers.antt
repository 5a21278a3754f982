use Rattle.std.proofs.Common.{arith}
use Rattle.std.proofs.lemmas.Grind.{common_steps}
use Rattle.sql_values.proofs.Dictionary.{list_any-map}
use Rattle.query_block.proofs.open.has_parameter.Goals as goal

pub returns : goal.returns
returns c = grind (arith, common_steps, list_any-map)
