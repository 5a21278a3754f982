use Rattle.std.proofs.Common.{◌∙◌, ◌^◌, unwrap_or, ap, sym, subst, ◌≤◌, le_trans}
use Rattle.query_block.specs.Blocks.{block_tree}
use Rattle.cost_model.specs.declared.stats.IndexStats.{IndexStats}
use Rattle.cost_model.specs.Costing.{costing_tree}
use Rattle.cost_model.specs.AtPoint.{scaled_on, axis_of_index}
use Rattle.plan_tree.specs.Work.{index_scan_line}
use Rattle.cost_model.specs.Pricing.{Pricing}
use Rattle.cost_model.specs.Prices.{own_cost}
use Rattle.sql_values.specs.Limits.{max_rows}
use Rattle.cost_model.proofs.Bounds.{index-scan-few, not-capped}
use Rattle.cost_model.proofs.AtPoint.{height-at, matches-at}
use Rattle.cost_model.proofs.prices.Prices.index_scan.Goals as goal

pub returns : goal.returns
unfolding own_cost
returns c =
    let relation = c.args.relation in
    let column = c.args.column in
    let tree = costing_tree c.args.self.now.costing in
    let point = c.args.self.now.point in
    let index = c.index-index.ensures in
    let height = ap (λ (one : IndexStats). one.height) index.stats ∙ sym (height-at tree point relation column) in
    let rows = c.unwrap_or.ensures ∙ ap (λ (one : IndexStats). unwrap_or one.matches 0) index.stats in
    let axis = c.axis_of_index-axis.ensures.axis ∙ ap (λ (at : Pricing). axis_of_index (block_tree at.costing.block) relation column) c.self.view_is in
    let matches = c.from.ensures ∙ c.scaled_on-matches.ensures.scaled
    ∙ (λ i. scaled_on (c.self.view_is i).costing.grid (c.point.ensures.point i) (axis i) (rows i)) ∙ sym (matches-at tree point relation column) in
    let most = le_trans c.scaled_on-matches.ensures.few (subst (λ n. n ≤ max_rows) (sym c.unwrap_or.ensures) index.few.matches) in
    let few = index-scan-few c.index-index.result.height c.from.result c.card.result index.few.height (subst (λ n. n ≤ max_rows) (sym c.from.ensures) most) c.card.ensures.few in
    let exact = not-capped _ _ c.index_scan.ensures few in
    record {
      own = exact ∙ λ i. index_scan_line (height i) (matches i) (c.card.ensures.card i);
      bound = subst (λ n. n ≤ 2 ^ 108) (sym exact) few;
    }
