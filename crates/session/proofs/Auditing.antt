-- What is due to AUDIT at its bouquet.
use Rattle.std.proofs.Common.{◌≡◌, ◌∙◌, ℕ, ◌≤◌, true, false, List, length, Some, None, refl, sym, ap, subst, nat_le}
use Rattle.std.specs.Prelude.{Ok}
use Rattle.std.proofs.lemmas.Bool.{lt-leb, le-leb}
use Rattle.std.proofs.lemmas.List.{length-map}
use Rattle.sql_values.specs.Limits.{max_plans}
use Rattle.sql_parse.specs.declared.tree.AuditDef.{AuditDef}
use Rattle.query_block.specs.Blocks.{BlockTree, put_of}
use Rattle.query_block.specs.Values.{value_fault}
use Rattle.query_block.specs.declared.values.ValueFault.{ValueFault}
use Rattle.plan_tree.specs.AllPlans.{plans_of}
use Rattle.bouquet_type.specs.Trees.{BouquetTree}
use Rattle.audit_run.specs.Audits.{RefusesAudit, audit_of, told_audit, work_of_all}
use Rattle.audit_run.specs.Measures.{measure_of}
use Rattle.audit_run.specs.declared.told.Audit.{Audit}
use Rattle.audit_run.specs.declared.told.AuditFault.{AuditFault}
use Rattle.audit_run.specs.declared.told.AuditFault.TheVariants as audits
use Rattle.workspace.specs.Outcome.{Outcome, Prints, Refuses, refused_work}
use Rattle.workspace.specs.Present.{present_due}
use Rattle.workspace.specs.Stop.{StopsAt}
use Rattle.workspace.specs.World.{World}
use Rattle.workspace.specs.declared.refusal.Refusal.{Refusal}
use Rattle.workspace.specs.declared.refusal.Refusal.TheVariants as refusal
use Rattle.workspace.specs.declared.stop.Stop.TheVariants as stop
use Rattle.session.specs.Audit.{audit_outcome, point_refusal, stop_of_audit}
use Rattle.session.specs.Printed.{audit_line}

module _ (max_work : ℕ) (world : World) (audit : AuditDef) (bouquet : BouquetTree) (has : present_due world audit.name ≡ Ok bouquet) where
  -- its block, with the values put in
  abbrev pub block : BlockTree
  block = put_of audit.values bouquet.costing.block

  abbrev pub audited : Outcome
  audited = audit_outcome max_work world audit

  -- the values don't fit
  pub no_fit : (fault : ValueFault) → value_fault bouquet.costing.block.parameters audit.values ≡ Some fault → StopsAt audited (stop.Refused (refusal.NotFitting fault))
  no_fit fault is = (rw (has, is) refl, refl)

  -- they fit
  module _ (fit : value_fault bouquet.costing.block.parameters audit.values ≡ None) where
    -- the levels are no point
    pub no_point : (why : Refusal) → point_refusal bouquet.costing.grid audit.levels ≡ Some why → refused_work why ≡ 0 → StopsAt audited (stop.Refused why)
    no_point why is free = (rw (has, fit, is) refl, free)

    -- they are one
    module _ (none : point_refusal bouquet.costing.grid audit.levels ≡ None) where
      abbrev plans : ℕ
      plans = length (plans_of block)

      abbrev work : ℕ
      work = work_of_all block world.database

      abbrev told : Outcome
      told = Prints (audit_line (audit_of bouquet block world.database audit.levels)) 0 world

      -- there are too many plans, or they work too much
      pub refused : (fault : AuditFault) → RefusesAudit block world.database max_work fault → StopsAt audited (stop_of_audit fault)
      refused audits.PlanLimit many = let past : nat_le plans max_plans ≡ false = lt-leb plans max_plans many in (rw (has, fit, none, past) refl, refl)
      refused (audits.WorkLimit spent) much =
          let few : nat_le plans max_plans ≡ true = le-leb plans max_plans much.0 in
          let past : nat_le work max_work ≡ false = lt-leb work max_work much.1 in
          (rw (has, fit, none, few, past) (ap (λ n. Refuses (refusal.PastWork n false)) (sym much.2)), refl)
      refused audits.NoMemory any = tt

      -- or it is told
      pub answered : (found : Audit) (point text : List ℕ) → point ≡ audit.levels → told_audit found ≡ audit_of bouquet block world.database point → found.plans ≤ max_plans → found.work ≤ max_work
          → text ≡ audit_line (told_audit found) → audited ≡ Prints text 0 world
      answered found point text same tells few within line =
          let is : told_audit found ≡ audit_of bouquet block world.database audit.levels = tells ∙ ap (audit_of bouquet block world.database) same in
          let count : found.plans ≡ plans = ap (λ a. a.plans) is ∙ length-map (plans_of block) (measure_of bouquet block world.database audit.levels) in
          let spent : found.work ≡ work = ap (λ a. a.work) is in
          let so_few : nat_le plans max_plans ≡ true = le-leb plans max_plans (subst (λ n. n ≤ max_plans) count few) in
          let so_little : nat_le work max_work ≡ true = le-leb work max_work (subst (λ n. n ≤ max_work) spent within) in
          rw (has, fit, none, so_few, so_little) (ap (λ l. Prints l 0 world) (sym (line ∙ ap audit_line is)))
