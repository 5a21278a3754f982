-- When the works of plans are as their costs say.
use Rattle.std.proofs.Common.{◌≡◌, ◌∙◌, inl, inr, ℕ, ◌*◌, ◌≤◌, Bool, true, IsTrue, List, [], ◌∷◌, map, nat_le, sym, ap, arith}
use Rattle.std.specs.List.{list_all}
use Rattle.std.proofs.lemmas.Bool.{leb-true}
use Rattle.sql_values.specs.declared.value.Value.{Value}
use Rattle.query_block.specs.Blocks.{put_of}
use Rattle.plan_tree.specs.Plans.{PlanTree}
use Rattle.plan_tree.specs.Enumerated.{IsPlan}
use Rattle.plan_tree.specs.AllPlans.{plans_of}
use Rattle.plan_tree.specs.Work.{work_of}
use Rattle.plan_tree.proofs.PutPlans.{put-plan}
use Rattle.plan_tree.proofs.Members.{IsIn, in-map}
use Rattle.plan_tree.proofs.Enumerated.{in-plans}
use Rattle.cost_model.specs.Costs.{cost_of}
use Rattle.db_catalog.specs.Database.{DatabaseState}
use Rattle.bouquet_type.specs.Trees.{BouquetTree}
use Rattle.bouquet_type.specs.Runs.{CostPremise}
use Rattle.audit_run.specs.Measures.{measure_of, worst_of}
use Rattle.audit_run.specs.Audits.{audit_of}
use Rattle.audit_run.proofs.Worst.{worst-some, worst-most}
use Rattle.audit_run.proofs.Between.{each_measured}

-- what passes for all passes for one
of-all : {X : Type 0} (test : X → Bool) (x : X) (xs : List X) → list_all test xs ≡ true → IsIn x xs → test x ≡ true
of-all test x [] all is = absurd is
of-all test x (z ∷ zs) all (inl same) = ap test (sym same) ∙ grind (arith, all)
of-all test x (z ∷ zs) all (inr more) = of-all test x zs (grind (arith, all)) more

pub premise : (bouquet : BouquetTree) (values : List Value) (database : DatabaseState) (point : List ℕ)
    → let block = put_of values bouquet.costing.block in
    let audit = audit_of bouquet block database point in IsTrue audit.below → CostPremise bouquet.costing audit.point audit.a audit.b (work_of database.tables block)
premise bouquet values database point below =
    let block = put_of values bouquet.costing.block in
    let measures = map (measure_of bouquet block database point) (plans_of block) in
    let worst = worst_of measures in
    let are = each_measured bouquet block database point (plans_of block) in
    let among : (p : PlanTree) → IsPlan bouquet.costing.block p → IsIn (measure_of bouquet block database point p) measures =
    λ p plan. in-map (measure_of bouquet block database point) p (plans_of block) (in-plans block p ((put-plan values bouquet.costing.block p).1 plan)) in
    record {
      some = worst-some measures are;
      within = λ p plan. leb-true _ _ (of-all (λ m. nat_le m.work m.cost) (measure_of bouquet block database point p) measures below (among p plan));
      near = λ p plan.
          let most : cost_of bouquet.costing p point * worst.work ≤ worst.cost * work_of database.tables block p =
          worst-most (measure_of bouquet block database point p) measures are (among p plan) in
          omega (arith, most);
    }
