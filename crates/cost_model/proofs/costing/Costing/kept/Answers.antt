use Rattle.std.proofs.Common.{◌∙◌, ap, sym}
use Rattle.query_block.specs.Blocks.{axis_of}
use Rattle.cost_model.specs.declared.stats.RelationStats.{RelationStats}
use Rattle.cost_model.specs.Costing.{costing_tree}
use Rattle.cost_model.specs.AtPoint.{scaled_on}
use Rattle.cost_model.proofs.AtPoint.{kept-at}
use Rattle.cost_model.proofs.costing.Costing.kept.Goals as goal

pub returns : goal.returns
returns c =
    let costing = costing_tree c.args.self.now in
    let point = c.args.q.now in
    let relation = c.args.relation in
    c.scaled_on.ensures.scaled
    ∙ ap (λ axis. scaled_on costing.grid point axis c.relation.result.now.kept) c.axis_of.ensures.axis
    ∙ ap (λ (stats : RelationStats). scaled_on costing.grid point (axis_of costing.block relation) stats.kept) c.relation.ensures.stats
    ∙ sym (kept-at costing point relation)
