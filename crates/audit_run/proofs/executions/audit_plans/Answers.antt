use Rattle.std.proofs.Common.{rules, ◌≡◌, ◌∙◌, ◌<◌, ◌^◌, length, List, ap, subst, sym, arith}
use Rattle.std.proofs.lemmas.List.{length-map}
use Rattle.ess_grid.specs.Points.{IsPoint}
use Rattle.query_block.specs.Blocks.{block_tree}
use Rattle.plan_tree.specs.Plans.{PlanTree, plan_tree}
use Rattle.plan_tree.specs.Enumerated.{IsPlan, IsSubPlan}
use Rattle.plan_tree.specs.AllPlans.{plans_of}
use Rattle.cost_model.specs.Costing.{CostingShape, costing_tree}
use Rattle.cost_model.specs.Costs.{cost_of}
use Rattle.bouquet_type.specs.Trees.{bouquet_tree}
use Rattle.known_rows.proofs.Laws.{nothing-known}
use Rattle.audit_run.specs.Measures.{measure_of}
use Rattle.audit_run.specs.Executed.{measure}
use Rattle.bouquet_type.proofs.Wide.{words_some}
use Rattle.audit_run.proofs.Some.{plan-before, plans_some, put-is-block}
use Rattle.audit_run.proofs.Between.{begins, next-figures, refuses, told}
use Rattle.audit_run.proofs.executions.audit_plans.Goals as goal

pub new-space-requires : goal.new-space-requires
new-space-requires c = record {
  some_words = omega (arith, c.width.ensures.width, words_some (block_tree c.args.audited.now.block.now) (put-is-block _ _ c.requires.audited.bouquet_is.costing.block c.requires.audited.put));
  few_words = search rules;
}

pub loop-plan-init : goal.loop-plan-init
loop-plan-init c =
    let audited = c.args.audited.now in
    record {
      so_far = begins (bouquet_tree audited.bouquet.now) (block_tree audited.block.now) audited.db.now audited.point.now c.args.plans.now c.new-figures.result c.new-meter.result.account.spent
          c.new-figures.ensures (ap (λ meter. meter.account.spent) c.new-meter.ensures);
      block = search rules;
      most = search rules;
      database = search rules;
      holds = record {
        context = search rules;
        known = rw c.new-known.ensures (nothing-known c.new-meter.result.database.tables (block_tree audited.block.now));
        within = search rules;
      };
      context = search rules;
    }

pub measured-requires-clause-costs : goal.measured-requires-clause-costs
measured-requires-clause-costs c =
    let audited = c.args.audited.now in
    let block = block_tree audited.block.now in
    let p = plan_tree c.plan-item.result in
    let plan : IsPlan block p = search rules in
    let same = ap (λ (costing : CostingShape). block_tree costing.block) c.costing-costing.ensures in
    record {
      plan = subst (λ block. IsSubPlan block p) (sym same) (plan-before (block_tree audited.bouquet.now.block) block p c.requires.audited.put plan).nodes;
      point = subst (λ (costing : CostingShape). IsPoint costing.grid audited.point.now) (sym c.costing-costing.ensures) c.requires.audited.point;
    }

pub loop-plan-preserved : goal.loop-plan-preserved
loop-plan-preserved c =
    let audited = c.args.audited.now in
    let b = bouquet_tree audited.bouquet.now in
    let block = block_tree audited.block.now in
    let point = audited.point.now in
    let plan = c.plan-item.result in
    let inv = c.loop-plan.invariant in
    let spent = c.loop-plan.engine.meter.now.account.spent in
    let m = c.in-Ok.measured in
    let of = c.in-Ok.ensures in
    let cost = of.cost ∙ ap (λ (costing : CostingShape). cost_of (costing_tree costing) (plan_tree plan) point) c.costing-costing.ensures in
    let work = rw (inv.block, inv.database) at of.work in
    let is : measure m ≡ measure_of b block audited.db.now point (plan_tree plan) = λ i. record { cost = cost i; work = work i } in
    let next =
    next-figures b block audited.db.now point c.args.plans.now c.loop-plan.plan-index plan m c.loop-plan.figures c.with-figures.result spent
    c.loop-plan-test.true c.plan-item.is is of.has c.with-figures.ensures inv.so_far in
    record {
      so_far = rw of.paid next;
      block = of.keeps.lent.block ∙ inv.block;
      most = of.keeps.lent.most ∙ inv.most;
      database = of.keeps.leaves.leaves.database ∙ inv.database;
      holds = of.keeps.engine;
      context = of.context;
    }

pub returns : goal.returns
returns c =
    let audited = c.args.audited.now in
    let spent = c.spent.result in
    let few : spent < 2 ^ 128 = omega (arith, c.spent.ensures.spent, c.spent.ensures.bounds.granted, c.spent.ensures.bounds.bounded) in
    let count : length c.args.plans.now ≡ length (plans_of (block_tree audited.block.now)) = sym (length-map c.args.plans.now plan_tree) ∙ ap (λ (ps : List PlanTree). length ps) c.requires.plans.all in
    record {
      audit = told (bouquet_tree audited.bouquet.now) (block_tree audited.block.now) audited.db.now audited.point.now c.args.plans.now c.loop-plan.figures spent c.most.result
          (plans_some audited.bouquet.now (block_tree audited.block.now) c.requires.audited.bouquet_is c.requires.audited.put) c.requires.plans.all few c.most.ensures.most (search rules);
      few = omega (arith, count, c.requires.plans.few);
      within = search rules;
      refuses = tt;
    }

pub returns-in-Err : goal.returns-in-Err
returns-in-Err c =
    let audited = c.args.audited.now in
    let inv = c.loop-plan.invariant in
    record {
      audit = tt;
      few = tt;
      within = tt;
      refuses = refuses (bouquet_tree audited.bouquet.now) (block_tree audited.block.now) audited.db.now audited.point.now c.args.plans.now c.loop-plan.plan-index c.plan-item.result c.loop-plan.figures
          c.loop-plan.engine.meter.now.account.spent audited.max_work c.in-Err.fault c.loop-plan-test.true c.plan-item.is c.requires.plans inv.so_far (rw (inv.block, inv.most, inv.database) at c.in-Err.ensures);
    }
