use Rattle.audit_run.specs.Executed.{measure}
use Rattle.audit_run.proofs.Quotients.{whole_tells, remains_tell}
use Rattle.audit_run.proofs.figures.is_worse.Goals as goal

pub returns-then-whole-other_whole : goal.returns-then-whole-other_whole
returns-then-whole-other_whole c =
    whole_tells (measure c.args.plan) (measure c.args.other) c.requires.plan.some c.requires.other.some c.if-whole-other_whole.true

pub returns : goal.returns
returns c = remains_tell (measure c.args.plan) (measure c.args.other) c.if-whole-other_whole.false
