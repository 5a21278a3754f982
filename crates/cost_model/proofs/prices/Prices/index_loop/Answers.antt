use Rattle.std.proofs.Common.{◌∙◌, ◌*◌, ◌^◌, ℕ, ◌≤◌, ap, sym, subst}
use Rattle.query_block.specs.Shape.{BlockShape}
use Rattle.plan_tree.specs.Enumerated.{column_on, edge_at}
use Rattle.plan_tree.specs.Work.{index_loop_work}
use Rattle.cost_model.specs.declared.stats.RelationStats.{RelationStats}
use Rattle.cost_model.specs.declared.stats.IndexStats.{IndexStats}
use Rattle.cost_model.specs.Costing.{costing_tree}
use Rattle.cost_model.specs.Pricing.{Pricing}
use Rattle.cost_model.specs.Costs.{relation_stats, index_stats, candidate_card}
use Rattle.cost_model.specs.Prices.{own_cost, block_at}
use Rattle.cost_model.proofs.AtPoint.{rows-at, height-at}
use Rattle.cost_model.proofs.Bounds.{loop-few, not-capped, pairs-in-room}
use Rattle.cost_model.proofs.Pairs.{loop-pairs-few}
use Rattle.cost_model.proofs.prices.Prices.index_loop.Goals as goal

pub candidates_among-candidates-requires-clause-pairs : goal.candidates_among-candidates-requires-clause-pairs
candidates_among-candidates-requires-clause-pairs c =
    let at = c.args.self.now in
    loop-pairs-few at.costing at.point c.args.left c.args.relation _ _ c.block.ensures.costing c.requires.apart c.requires.relation
    c.card-card.ensures.card (c.from-rows.ensures ∙ ap (λ (one : RelationStats). one.rows) (c.relation.ensures.stats ∙ ap (λ (one : Pricing). relation_stats one.costing.stats c.args.relation) c.self.view_is)
    ∙ sym (rows-at (costing_tree at.costing) at.point c.args.relation))

pub returns : goal.returns
unfolding own_cost
returns c =
    let at = c.args.self.now in
    let tree = costing_tree at.costing in
    let relation = c.args.relation in
    let rows = c.from-rows.ensures ∙ ap (λ (one : RelationStats). one.rows) (c.relation.ensures.stats ∙ ap (λ (one : Pricing). relation_stats one.costing.stats relation) c.self.view_is)
    ∙ sym (rows-at tree at.point relation) in
    let of : IndexStats → ℕ = λ index. index.height in
    let column = c.column_of_edge-column.ensures ∙ ap (λ (block : BlockShape). column_on (edge_at block.edges c.args.edge) relation) c.block.ensures.block in
    let height = ap of c.index-height.ensures.stats ∙ ap (λ column. of (index_stats at.costing.stats relation column)) column
    ∙ sym (height-at tree at.point relation (column_on (edge_at (block_at at).edges c.args.edge) relation)) in
    let candidates = c.candidates_among-candidates.ensures.candidates ∙ (λ i. candidate_card tree c.args.edge at.point (c.card-card.ensures.card i * rows i)) in
    let few = loop-few c.index-height.result.height c.card-card.result c.candidates_among-candidates.result c.card.result c.index-height.ensures.few.height
    c.card-card.ensures.few c.candidates_among-candidates.ensures.few c.card.ensures.few in
    let exact = not-capped _ _ c.index_loop.ensures few in
    record {
      own = exact ∙ λ i. index_loop_work (height i) (c.card-card.ensures.card i) (candidates i) (c.card.ensures.card i);
      bound = subst (λ n. n ≤ 2 ^ 108) (sym exact) few;
    }

pub overflow_mul-card : goal.overflow_mul-card
overflow_mul-card c =
    let at = c.args.self.now in
    pairs-in-room _ (loop-pairs-few at.costing at.point c.args.left c.args.relation _ _ c.block.ensures.costing c.requires.apart c.requires.relation
    c.card-card.ensures.card (c.from-rows.ensures ∙ ap (λ (one : RelationStats). one.rows) (c.relation.ensures.stats ∙ ap (λ (one : Pricing). relation_stats one.costing.stats c.args.relation) c.self.view_is)
    ∙ sym (rows-at (costing_tree at.costing) at.point c.args.relation)))
