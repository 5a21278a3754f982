use Rattle.audit_run.proofs.Premise.{premise}
use Rattle.audit_run.proofs.law.audits_that_say_yes_show_the_premise.Goals as goal

pub returns : goal.returns
returns c = premise
