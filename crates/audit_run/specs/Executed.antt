-- What one execution tells, and what stops some of them.
use Rattle.std.specs.Prelude.{◌≡◌, ℕ, ◌+◌, ◌^◌, ◌<◌, ◌≤◌, ◌&&◌, ⊤, All, IfErr, IfOk, List, length, map, min, nat_le, if◌then◌else◌, Result, Ok, Err}
use Rattle.sql_values.specs.Limits.{max_plans}
use Rattle.ess_grid.specs.Points.{IsPoint}
use Rattle.query_block.specs.Blocks.{BlockTree, block_tree, IsPutOf}
use Rattle.plan_tree.specs.declared.plan.Plan.{Plan}
use Rattle.plan_tree.specs.Plans.{plan_tree}
use Rattle.plan_tree.specs.Enumerated.{IsPlan, IsSubPlan}
use Rattle.plan_tree.specs.AllPlans.{plans_of}
use Rattle.cost_model.specs.Costing.{CostingShape, costing_tree}
use Rattle.cost_model.specs.Costs.{cost_of}
use Rattle.db_catalog.specs.Fits.{Fits}
use Rattle.exec_pipe.specs.declared.engine.Engine.{Engine}
use Rattle.exec_pipe.specs.Engines.{KeepsEngine}
use Rattle.exec_pipe.specs.Scenes.{IsEmptyContext}
use Rattle.exec_pipe.specs.Starting.{plan_work}
use Rattle.bouquet_type.specs.Trees.{IsBouquet, bouquet_tree}
use Rattle.audit_run.specs.Audits.{RefusesAudit, audit_of, told_audit}
use Rattle.audit_run.specs.Measures.{Measure, is_worse}
use Rattle.audit_run.specs.declared.executions.Audited.{Audited}
use Rattle.audit_run.specs.declared.figures.Figures.{Figures}
use Rattle.audit_run.specs.declared.figures.Measured.{Measured}
use Rattle.audit_run.specs.declared.told.Audit.{Audit}
use Rattle.audit_run.specs.declared.told.AuditFault.{AuditFault}
use Rattle.audit_run.specs.declared.told.AuditFault.TheVariants.{PlanLimit, WorkLimit, NoMemory}

-- as it was measured
abbrev pub measure : Measured → Measure
measure measured = record { cost = measured.cost; work = measured.work }

-- it works something, and so little that its product with another work fits 128 bits
pub record HasWork (measured : Measured) : Type 0 where
  pub some : 1 ≤ measured.work
  pub few : measured.work < 2 ^ 64

-- the figures with those of one plan more
pub record AreWith (m : Measured) (old new : Figures) : Type 0 where
  pub below : new.below ≡ (old.below && nat_le m.work m.cost)
  pub worst : new.worst ≡ (if is_worse (measure m) (measure old.worst) then m else old.worst)
  pub cheapest : new.cheapest ≡ min old.cheapest m.work

-- a bouquet may be audited on a block: it is the bouquet's, with some values that fit in place of its parameters, and fits the
-- database; and the point is one of the bouquet's grid
pub record MayAudit (audited : Audited) : Type 0 where
  pub bouquet_is : IsBouquet audited.bouquet.now
  pub put : IsPutOf (block_tree audited.bouquet.now.block) (block_tree audited.block.now)
  pub fits : Fits audited.db.now (block_tree audited.block.now)
  pub point : IsPoint audited.bouquet.now.grid audited.point.now

-- these are all plans of the block, no more than an audit may try
pub record AreItsPlans (block : BlockTree) (plans : List Plan) : Type 0 where
  pub all : map plan_tree plans ≡ plans_of block
  pub each : All (λ p. IsPlan block (plan_tree p)) plans
  pub few : length (plans_of block) ≤ max_plans

-- an audit of them, or why there is none
pub record Audits (audited : Audited) (result : Result Audit AuditFault) : Type 0 where
  pub audit : IfOk result (λ audit. told_audit audit ≡ audit_of (bouquet_tree audited.bouquet.now) (block_tree audited.block.now) audited.db.now audited.point.now)
  pub few : IfOk result (λ audit. audit.plans ≤ max_plans)
  pub within : IfOk result (λ audit. audit.work ≤ audited.max_work)
  pub refuses : IfErr result (RefusesAudit (block_tree audited.block.now) audited.db.now audited.max_work)

-- executions that take so much in all, of so much at the most, stop where that is too little, and all of it is spent; or out
-- of memory
abbrev pub StopsAudit : (total most : ℕ) → AuditFault → Type 0
StopsAudit total most PlanLimit = ⊥
StopsAudit total most (WorkLimit spent) = (most < total) × (spent ≡ most)
StopsAudit total most NoMemory = ⊤

-- a plan has a cost at a point
pub record MayCost (costing : CostingShape) (at : List ℕ) (p : Plan) : Type 0 where
  pub plan : IsSubPlan (block_tree costing.block) (plan_tree p)
  pub point : IsPoint costing.grid at

-- a plan was executed and measured: what it works was paid, and there are no rows again
pub record IsMeasured (costing : CostingShape) (point : List ℕ) (plan : Plan) (old new : Engine) (measured : Measured) : Type 0 where
  pub cost : measured.cost ≡ cost_of (costing_tree costing) (plan_tree plan) point
  pub work : measured.work ≡ plan_work old.meter.now old.block.now plan
  pub has : HasWork measured
  pub paid : new.meter.now.account.spent ≡ old.meter.now.account.spent + measured.work
  pub context : IsEmptyContext new.meter.now (block_tree new.block.now) new.space.now
  pub keeps : KeepsEngine old new

-- so it is; or the executions stop
abbrev pub MeasuresPlan : CostingShape → (point : List ℕ) → Plan → (old new : Engine) → Result Measured AuditFault → Type 0
MeasuresPlan costing point plan old new (Ok measured) = IsMeasured costing point plan old new measured
MeasuresPlan costing point plan old new (Err fault) =
    StopsAudit (old.meter.now.account.spent + plan_work old.meter.now old.block.now plan) old.max_work fault
