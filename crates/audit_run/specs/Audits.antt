-- What an audit tells, and why it is refused.
use Rattle.std.specs.Prelude.{◌≡◌, ℕ, ◌<◌, ◌≤◌, Bool, List, length, map, sum_by, ⊤}
use Rattle.sql_values.specs.Limits.{max_plans}
use Rattle.query_block.specs.Blocks.{BlockTree}
use Rattle.plan_tree.specs.AllPlans.{plans_of}
use Rattle.plan_tree.specs.Work.{work_of}
use Rattle.cost_model.specs.Optimal.{least_of}
use Rattle.db_catalog.specs.Database.{DatabaseState}
use Rattle.bouquet_type.specs.Trees.{BouquetTree}
use Rattle.bouquet_type.specs.Budgets.{most_plans}
use Rattle.audit_run.specs.Measures.{measure_of, are_within, worst_of}
use Rattle.audit_run.specs.declared.told.Audit.{Audit}
use Rattle.audit_run.specs.declared.told.AuditFault.{AuditFault}
use Rattle.audit_run.specs.declared.told.AuditFault.TheVariants.{PlanLimit, WorkLimit, NoMemory}

-- the point; how many plans there are; whether no work is above its cost; cost and work of the worst plan; the least work;
-- the most plans that a contour has; the work of all plans together
pub record AuditTree : Type 0 where
  pub point : List ℕ
  pub plans : ℕ
  pub below : Bool
  pub a : ℕ
  pub b : ℕ
  pub cheapest : ℕ
  pub r : ℕ
  pub work : ℕ

-- what all plans of the block work together over a database
abbrev pub work_of_all : BlockTree → DatabaseState → ℕ
work_of_all block database = sum_by (work_of database.tables block) (plans_of block)

-- of a bouquet on a block at a point, over a database
abbrev pub audit_of : BouquetTree → BlockTree → DatabaseState → (point : List ℕ) → AuditTree
audit_of bouquet block database point =
    let measures = map (measure_of bouquet block database point) (plans_of block) in
    let worst = worst_of measures in
    record {
      point = point;
      plans = length measures;
      below = are_within measures;
      a = worst.cost;
      b = worst.work;
      cheapest = least_of (map (λ m. m.work) measures);
      r = most_plans bouquet.contours;
      work = work_of_all block database;
    }

-- as it is told
abbrev pub told_audit : Audit → AuditTree
told_audit audit = record {
  point = audit.point;
  plans = audit.plans;
  below = audit.below;
  a = audit.a;
  b = audit.b;
  cheapest = audit.cheapest;
  r = audit.r;
  work = audit.work;
}

-- an audit is refused where there are more plans than it may try; or else where all of them work more than this at the most,
-- and so much is spent; or out of memory
abbrev pub RefusesAudit : BlockTree → DatabaseState → (most : ℕ) → AuditFault → Type 0
RefusesAudit block database most PlanLimit = max_plans < length (plans_of block)
RefusesAudit block database most (WorkLimit spent) =
    (length (plans_of block) ≤ max_plans) × (most < work_of_all block database) × (spent ≡ most)
RefusesAudit block database most NoMemory = ⊤
