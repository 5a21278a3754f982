-- What holds between two executions of an audit, and what an audit tells in the end.
use Rattle.std.proofs.Common.{◌≡◌, ◌∙◌, ℕ, ◌+◌, ◌^◌, ◌<◌, ◌≤◌, List, [], ◌∷◌, length, map, drop, get_or, refl, sym, ap, subst, arith}
use Rattle.std.specs.Prelude.{All}
use Rattle.std.specs.List.{sum_by}
use Rattle.std.proofs.lemmas.List.{drop_more, drop_all, length-map}
use Rattle.std.proofs.lemmas.List.Elements.{All-nil, All-cons}
use Rattle.std.proofs.lemmas.List.Sums.{sum_by-cons}
use Rattle.query_block.specs.Blocks.{BlockTree, block_tree}
use Rattle.plan_tree.specs.declared.plan.Plan.{Plan}
use Rattle.plan_tree.specs.Plans.{PlanTree, plan_tree}
use Rattle.plan_tree.specs.AllPlans.{plans_of}
use Rattle.plan_tree.specs.Work.{work_of}
use Rattle.db_catalog.specs.Database.{DatabaseState}
use Rattle.exec_pipe.specs.declared.engine.Engine.{Engine}
use Rattle.exec_pipe.specs.Engines.{IsEngine}
use Rattle.exec_pipe.specs.Scenes.{IsEmptyContext}
use Rattle.bouquet_type.specs.Trees.{BouquetTree, bouquet_tree}
use Rattle.audit_run.specs.declared.executions.Audited.{Audited}
use Rattle.audit_run.specs.declared.figures.Figures.{Figures}
use Rattle.audit_run.specs.declared.figures.Measured.{Measured}
use Rattle.audit_run.specs.Measures.{Measure, measure_of, worst_of}
use Rattle.audit_run.specs.declared.told.AuditFault.{AuditFault}
use Rattle.audit_run.specs.declared.told.AuditFault.TheVariants.{PlanLimit, WorkLimit, NoMemory}
use Rattle.audit_run.specs.Executed.{measure, AreItsPlans, AreWith, HasWork, StopsAudit}
use Rattle.audit_run.specs.Audits.{audit_of, work_of_all, RefusesAudit}
use Rattle.audit_run.proofs.Some.{cost_some, work_some}
use Rattle.audit_run.proofs.Worst.{IsMeasure}
use Rattle.audit_run.proofs.Walk.{AreFigures, first_figures, figures-begin, figures-next, figures-end}

module _ (bouquet : BouquetTree) (block : BlockTree) (database : DatabaseState) (point : List ℕ) where
  abbrev pub measures_in : List Plan → List Measure
  measures_in plans = map (measure_of bouquet block database point) (map plan_tree plans)

  pub each_measured : (plans : List PlanTree) → All IsMeasure (map (measure_of bouquet block database point) plans)
  each_measured [] = All-nil IsMeasure
  each_measured (p ∷ plans) =
      let m = measure_of bouquet block database point p in
      let here : IsMeasure m = record { cost = cost_some bouquet.costing p point; work = work_some database.tables block p } in
      All-cons IsMeasure m (map (measure_of bouquet block database point) plans) here (each_measured plans)

  -- what all plans work is the sum of what is measured
  work-measured : (plans : List PlanTree)
      → sum_by (λ m. m.work) (map (measure_of bouquet block database point) plans) ≡ sum_by (work_of database.tables block) plans
  work-measured [] = refl
  work-measured (p ∷ plans) =
      let m = measure_of bouquet block database point p in
      omega (
        arith,
        sum_by-cons (λ (n : Measure). n.work) m (map (measure_of bouquet block database point) plans),
        sum_by-cons (work_of database.tables block) p plans,
        work-measured plans,
      )

  pub begins : (plans : List Plan) (figures : Figures) (spent : ℕ) → figures ≡ first_figures → spent ≡ 0
      → AreFigures (measures_in plans) (measures_in plans) figures spent
  begins plans figures spent first none = rw (first, none) (figures-begin (measures_in plans) (each_measured (map plan_tree plans)))

  next-left : (plans : List Plan) (index : ℕ) (plan : Plan) → index < length plans → plan ≡ get_or plans index plan
      → measures_in (drop index plans) ≡ measure_of bouquet block database point (plan_tree plan) ∷ measures_in (drop (index + 1) plans)
  next-left plans index plan there at =
      ap measures_in (drop_more plans index plan there ∙ ap (λ p. p ∷ drop (index + 1) plans) (sym at))

  pub next-figures : (plans : List Plan) (index : ℕ) (plan : Plan) (m : Measured) (old new : Figures) (spent : ℕ) → index < length plans
      → plan ≡ get_or plans index plan → measure m ≡ measure_of bouquet block database point (plan_tree plan) → HasWork m → AreWith m old new
      → AreFigures (measures_in plans) (measures_in (drop index plans)) old spent
      → AreFigures (measures_in plans) (measures_in (drop (index + 1) plans)) new (spent + m.work)
  next-figures plans index plan m old new spent there at is has with are =
      let rest = measures_in (drop (index + 1) plans) in
      let left = next-left plans index plan there at ∙ ap (λ n. n ∷ rest) (sym is) in
      figures-next (measures_in plans) rest m old new spent (subst (λ left. AreFigures (measures_in plans) left old spent) left are) has with

  -- the next plan works no more than all of them, with what is spent before it
  next-within : (plans : List Plan) (index : ℕ) (plan : Plan) (figures : Figures) (spent : ℕ) → index < length plans → plan ≡ get_or plans index plan → map plan_tree plans ≡ plans_of block
      → AreFigures (measures_in plans) (measures_in (drop index plans)) figures spent → spent + work_of database.tables block (plan_tree plan) ≤ work_of_all block database
  next-within plans index plan figures spent there at all are =
      let rest = measures_in (drop (index + 1) plans) in
      let m = measure_of bouquet block database point (plan_tree plan) in
      omega (
        arith,
        are.work,
        ap (sum_by (λ (n : Measure). n.work)) (next-left plans index plan there at),
        sum_by-cons (λ (n : Measure). n.work) m rest,
        work-measured (map plan_tree plans),
        ap (sum_by (work_of database.tables block)) all,
      )

  -- so what stops it is why there is no audit
  pub refuses : (plans : List Plan) (index : ℕ) (plan : Plan) (figures : Figures) (spent most : ℕ) (fault : AuditFault) → index < length plans → plan ≡ get_or plans index plan → AreItsPlans block plans
      → AreFigures (measures_in plans) (measures_in (drop index plans)) figures spent → StopsAudit (spent + work_of database.tables block (plan_tree plan)) most fault → RefusesAudit block database most fault
  refuses plans index plan figures spent most PlanLimit there at its are stop = absurd stop
  refuses plans index plan figures spent most (WorkLimit told) there at its are stop = (its.few, omega (arith, stop.0, next-within plans index plan figures spent there at its.all are), stop.1)
  refuses plans index plan figures spent most NoMemory there at its are stop = tt

  -- the figures of all plans, told
  pub told : (plans : List Plan) (figures : Figures) (spent most : ℕ) → 1 ≤ length (plans_of block)
      → map plan_tree plans ≡ plans_of block → spent < 2 ^ 128 → most ≡ (audit_of bouquet block database point).r
      → AreFigures (measures_in plans) (measures_in (drop (length plans) plans)) figures spent
      → record {
        point = point;
        plans = length plans;
        below = figures.below;
        a = figures.worst.cost;
        b = figures.worst.work;
        cheapest = figures.cheapest;
        r = most;
        work = spent;
      } ≡ audit_of bouquet block database point
  told plans figures spent most some all few ranks are =
      let whole = map (measure_of bouquet block database point) (plans_of block) in
      let none : measures_in (drop (length plans) plans) ≡ [] = ap measures_in (drop_all (length plans) plans (omega arith)) in
      let over : AreFigures (measures_in plans) [] figures spent = subst (λ left. AreFigures (measures_in plans) left figures spent) none are in
      let of : AreFigures whole [] figures spent =
      subst (λ ps. AreFigures (map (measure_of bouquet block database point) ps) [] figures spent) all over in
      let counted = length-map (plans_of block) (measure_of bouquet block database point) in
      let end = figures-end whole figures spent (omega (arith, some, counted)) few of in
      let count : length plans ≡ length whole = sym (length-map plans plan_tree) ∙ ap (λ (ps : List PlanTree). length ps) all ∙ sym counted in
      let a : figures.worst.cost ≡ (worst_of whole).cost = ap (λ (m : Measure). m.cost) end.worst in
      let b : figures.worst.work ≡ (worst_of whole).work = ap (λ (m : Measure). m.work) end.worst in
      let work : spent ≡ work_of_all block database = end.work ∙ work-measured (plans_of block) in
      rw (count, end.below, a, b, end.cheapest, ranks, work) refl

-- so many plans were executed, and these are their figures; the engine is the one that was made, and there are no rows
pub record IsBetween (audited : Audited) (plans : List Plan) (index : ℕ) (figures : Figures) (engine : Engine) : Type 0 where
  pub so_far : AreFigures (measures_in (bouquet_tree audited.bouquet.now) (block_tree audited.block.now) audited.db.now audited.point.now plans)
      (measures_in (bouquet_tree audited.bouquet.now) (block_tree audited.block.now) audited.db.now audited.point.now (drop index plans)) figures engine.meter.now.account.spent
  pub block : engine.block.now ≡ audited.block.now
  pub most : engine.max_work ≡ audited.max_work
  pub database : engine.meter.now.database ≡ audited.db.now
  pub holds : IsEngine engine
  pub context : IsEmptyContext engine.meter.now (block_tree engine.block.now) engine.space.now
