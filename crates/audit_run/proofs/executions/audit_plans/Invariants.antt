use Rattle.audit_run.proofs.Between.{IsBetween}
use Rattle.audit_run.proofs.executions.audit_plans.Given as goal

abbrev pub invariant-loop-plan : goal.invariant-loop-plan
invariant-loop-plan l = IsBetween l.audited l.plans l.plan-index l.figures l.engine
