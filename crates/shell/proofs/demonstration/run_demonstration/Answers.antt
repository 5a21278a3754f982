-- There was no memory for the folder, so nothing was carried out.
use Rattle.shell.proofs.Demonstrations.{demonstrates_nothing}
use Rattle.shell.proofs.demonstration.run_demonstration.Goals as goal

pub returns-in-Err-clause-demonstrates : goal.returns-in-Err-clause-demonstrates
returns-in-Err-clause-demonstrates g c = demonstrates_nothing c.args.outlets.now.max_work c.args.number _ (g.K.Sink.got c.args.outlets.now.sink.now) c.args.outlets.now.book.now c.requires.fresh.unpaid
