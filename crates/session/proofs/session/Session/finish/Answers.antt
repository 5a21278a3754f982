-- The workspace finishes it.
use Rattle.session.proofs.session.Session.finish.Goals as goal

pub returns-clause-due : goal.returns-clause-due
returns-clause-due c = rw (← c.self.view_is) c.finish.ensures.due
