use Rattle.std.proofs.Common.{◌≤◌, ◌^◌, ◌∙◌, refl, ap, subst, sym}
use Rattle.cost_model.specs.declared.stats.RelationStats.{RelationStats}
use Rattle.cost_model.specs.Costing.{costing_tree}
use Rattle.plan_tree.specs.Work.{scan_line}
use Rattle.cost_model.specs.Pricing.{Pricing}
use Rattle.cost_model.specs.Costs.{relation_stats}
use Rattle.cost_model.specs.Prices.{own_cost}
use Rattle.cost_model.proofs.Bounds.{scan-few, not-capped}
use Rattle.cost_model.proofs.AtPoint.{rows-at, pages-at}
use Rattle.cost_model.proofs.prices.Prices.scan.Goals as goal

pub returns : goal.returns
unfolding own_cost
returns c =
    let relation = c.args.relation in
    let tree = costing_tree c.args.self.now.costing in
    let stats = c.relation-stats.ensures.stats ∙ ap (λ (at : Pricing). relation_stats at.costing.stats relation) c.self.view_is in
    let rows = ap (λ (one : RelationStats). one.rows) stats ∙ sym (rows-at tree c.args.self.now.point relation) in
    let pages = ap (λ (one : RelationStats). one.pages) stats ∙ sym (pages-at tree c.args.self.now.point relation) in
    let read = c.relation-stats.result.now in
    let few = scan-few read read.pages read.rows c.card.result c.relation-stats.ensures.few refl refl c.card.ensures.few in
    let exact = not-capped _ _ c.scan.ensures few in
    record {
      own = exact ∙ λ i. scan_line (pages i) (rows i) (c.card.ensures.card i);
      bound = subst (λ n. n ≤ 2 ^ 108) (sym exact) few;
    }
