-- What comes of AUDIT.
use Rattle.std.specs.Prelude.{ℕ, ◌+◌, List, [], ◌∷◌, Option, Some, None, length, nat_eq, nat_le, nat_lt, false, if◌then◌else◌}
use Rattle.sql_values.specs.Steps.{pure, check, ◌>>=◌, ◌>>◌}
use Rattle.sql_values.specs.Limits.{max_plans}
use Rattle.sql_values.specs.declared.limit.LimitName.TheVariants as limit
use Rattle.sql_parse.specs.declared.tree.AuditDef.{AuditDef}
use Rattle.ess_grid.specs.Points.{GridShape}
use Rattle.plan_tree.specs.AllPlans.{plans_of}
use Rattle.audit_run.specs.Audits.{audit_of, work_of_all}
use Rattle.audit_run.specs.declared.told.AuditFault.{AuditFault}
use Rattle.audit_run.specs.declared.told.AuditFault.TheVariants as audits
use Rattle.workspace.specs.declared.stop.Stop.{Stop}
use Rattle.workspace.specs.declared.stop.Stop.TheVariants as stop
use Rattle.workspace.specs.declared.refusal.Refusal.{Refusal}
use Rattle.workspace.specs.declared.refusal.Refusal.TheVariants as refusal
use Rattle.workspace.specs.Outcome.{Outcome, Prints, outcome_of, unless}
use Rattle.workspace.specs.World.{World}
use Rattle.session.specs.Answered.{used_due}
use Rattle.session.specs.Printed.{audit_line}

-- the first of these levels that an axis of so many hasn't
abbrev pub level_refusal : (count : ℕ) → (levels : List ℕ) → Option Refusal
level_refusal count [] = None
level_refusal count (level ∷ more) = if nat_lt level count then level_refusal count more else Some (refusal.PastLimit limit.Level level)

-- levels that are no point of a grid: they aren't one for each axis, or one of them is too high
abbrev pub point_refusal : GridShape → (levels : List ℕ) → Option Refusal
point_refusal grid levels =
    if nat_eq (length levels) grid.axes then level_refusal grid.levels levels
    else Some (refusal.PastLimit limit.Coordinates (length levels))

-- what is told at a point of the bouquet of this name, with the statement's values: the levels have to be a point of its grid, and the
-- block has to have few enough plans, whose work together may be no more than this. No book takes it in
abbrev pub audit_outcome : (max_work : ℕ) → World → AuditDef → Outcome
audit_outcome max_work world audit = outcome_of do
  (bouquet, block) ← used_due world audit.name audit.values
  unless (λ why. why) (point_refusal bouquet.costing.grid audit.levels)
  check (refusal.PastLimit limit.Plans (max_plans + 1)) (nat_le (length (plans_of block)) max_plans)
  check (refusal.PastWork max_work false) (nat_le (work_of_all block world.database) max_work)
  pure (Prints (audit_line (audit_of bouquet block world.database audit.levels)) 0 world)

-- why an audit stops that ends with a fault: its work is in no book
abbrev pub stop_of_audit : AuditFault → Stop
stop_of_audit audits.PlanLimit = stop.Refused (refusal.PastLimit limit.Plans (max_plans + 1))
stop_of_audit (audits.WorkLimit spent) = stop.Refused (refusal.PastWork spent false)
stop_of_audit audits.NoMemory = stop.NoMemory
