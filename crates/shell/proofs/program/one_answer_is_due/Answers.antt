-- The form can be read in one way only, and a folder of known contents gives one file.
use Rattle.shell.proofs.Runs.{one_answer}
use Rattle.shell.proofs.program.one_answer_is_due.Goals as goal

pub returns : goal.returns
returns c = one_answer
