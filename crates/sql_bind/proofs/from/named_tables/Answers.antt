use Rattle.std.proofs.Common.{arith}
use Rattle.std.proofs.lemmas.Grind.{common_steps}
use Rattle.std.proofs.lemmas.List.Elements.{All-push}
use Rattle.sql_bind.proofs.Tables.{items-next, table-passed}
use Rattle.sql_bind.proofs.from.named_tables.Goals as goal

pub loop-i-preserved : goal.loop-i-preserved
loop-i-preserved c = grind (arith, common_steps, items-next, table-passed, All-push)
