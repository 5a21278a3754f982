use Rattle.std.proofs.Common.{sym, subst}
use Rattle.plan_space.specs.Alike.{AreEarlier}
use Rattle.plan_space.proofs.best_plans.fill_at.Goals as goal

pub fill-requires : goal.fill-requires
fill-requires c = subst (λ costing. AreEarlier costing c.args.inside.now c.args.rows.now) (sym c.new.ensures.costing) c.requires.earlier
