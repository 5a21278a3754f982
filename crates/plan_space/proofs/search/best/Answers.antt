use Rattle.std.proofs.Common.{sym, subst}
use Rattle.query_block.specs.Blocks.{block_tree}
use Rattle.cost_model.specs.Costing.{CostingShape}
use Rattle.plan_space.specs.Alike.{AreInsideSets}
use Rattle.plan_space.proofs.search.best.Goals as goal

pub best_at-requires : goal.best_at-requires
best_at-requires c =
    subst (λ (costing : CostingShape). AreInsideSets (block_tree costing.block) c.axes_inside_sets-inside.result) (sym c.new-2.ensures.costing) c.axes_inside_sets-inside.ensures
