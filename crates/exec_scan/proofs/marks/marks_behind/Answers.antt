use Rattle.exec_scan.proofs.MarkBits.{behind}
use Rattle.exec_scan.proofs.marks.marks_behind.Goals as goal

pub returns : goal.returns
returns c = λ rows are. behind rows c.args.marks c.args.before are
