use Rattle.std.proofs.Common.{arith}
use Rattle.exec_scan.proofs.table_reader.TableReader.pass.Goals as goal

pub overflow_add-self : goal.overflow_add-self
overflow_add-self c = let within = rw (← c.self.view_is) at c.requires in omega (arith, within)
