use Rattle.std.proofs.Common.{◌≡◌, ◌∙◌, ℕ, ◌<◌, List, [], length, map, get_or, ap, sym, subst, arith}
use Rattle.std.proofs.Math.ListN.{length-map}
use Rattle.std.proofs.lemmas.List.{get_or_default}
use Rattle.query_block.specs.declared.block.Relation.{Relation}
use Rattle.query_block.specs.Blocks.{relation_tree}
use Rattle.cost_model.specs.declared.stats.RelationStats.{RelationStats}
use Rattle.cost_model.specs.Costing.{CostingShape}
use Rattle.cost_model.specs.Costs.{relation_stats}
use Rattle.cost_model.specs.Few.{AreFew}
use Rattle.cost_model.proofs.Bounds.{relation-few, stats-long}
use Rattle.cost_model.proofs.costing.Costing.relation.Goals as goal

-- there are counts of each relation
there : (relation many : ℕ) (lent stats : List RelationStats) (relations : List Relation) → relation < many → lent ≡ stats → length stats ≡ length (map relation_tree relations)
    → length relations ≡ many → relation < length lent
there relation many lent stats relations below is long same =
    omega (arith, below, ap length is, long, length-map relations relation_tree, same)

none : RelationStats
none = record { rows = 0; pages = 0; kept = 0; columns = [] }

pub bounds-as_slice-relation : goal.bounds-as_slice-relation
bounds-as_slice-relation c =
    let many : CostingShape → ℕ = λ shape. length shape.block.relations in
    there c.args.relation _ _ _ _ c.requires c.as_slice.ensures (stats-long _ c.self.invariant.is_costing) (ap many c.self.view_is)

pub returns-clause-stats : goal.returns-clause-stats
unfolding none
returns-clause-stats c =
    let relation = c.args.relation in
    let many : CostingShape → ℕ = λ shape. length shape.block.relations in
    let below = there relation _ _ _ _ c.requires c.as_slice.ensures (stats-long _ c.self.invariant.is_costing) (ap many c.self.view_is) in
    let at : CostingShape → RelationStats = λ shape. relation_stats shape.stats relation in
    c.index-as_slice-relation.is
    ∙ get_or_default c.as_slice.result.now relation c.index-as_slice-relation.result none below
    ∙ ap (λ all. get_or all relation none) c.as_slice.ensures
    ∙ ap at c.self.view_is

pub returns-clause-few : goal.returns-clause-few
unfolding none
returns-clause-few c =
    let relation = c.args.relation in
    let many : CostingShape → ℕ = λ shape. length shape.block.relations in
    let below = there relation _ _ _ _ c.requires c.as_slice.ensures (stats-long _ c.self.invariant.is_costing) (ap many c.self.view_is) in
    let is = c.index-as_slice-relation.is
    ∙ get_or_default c.as_slice.result.now relation c.index-as_slice-relation.result none below
    ∙ ap (λ all. get_or all relation none) c.as_slice.ensures in
    subst AreFew (sym is) (relation-few _ relation c.self.invariant.is_costing)
