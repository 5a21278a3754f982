use Rattle.std.proofs.Common.{◌≡◌, ◌∙◌, IsTrue, ap, sym, subst}
use Rattle.query_block.specs.Blocks.{block_tree, relation_at}
use Rattle.plan_tree.specs.Enumerated.{column_on, edge_at, IsIndexed}
use Rattle.plan_tree.specs.declared.roots.Root.TheVariants as root
use Rattle.plan_tree.specs.Roots.{Stands}
use Rattle.cost_model.specs.Prices.{block_at}
use Rattle.plan_space.specs.Search.{SearchShape}
use Rattle.plan_space.specs.Steps.{Considers, IsLookUpBy}
use Rattle.plan_space.proofs.Considered.{nothing, narrow, looked-up}
use Rattle.plan_space.proofs.steps.Search.by_relation.Goals as goal

pub returns-then-not-is_indexed : goal.returns-then-not-is_indexed
returns-then-not-is_indexed c =
    let sought = c.args.self.now in
    let edge = c.args.edge in
    let relation = c.args.relation in
    nothing sought (IsLookUpBy edge c.args.left) c.args.start (λ node group stands.
    let is = looked-up sought edge c.args.left relation c.requires.relation node group stands in
    let found = (subst (λ one. Stands (block_at sought.at) one sought.set) is stands).2.indexed in
    let lent = subst (λ b. IsIndexed (relation_at (block_tree b).relations relation) (column_on (edge_at b.edges edge) relation)) (sym (c.block-block.ensures.block ∙ ap (λ (one : SearchShape). one.at.costing.block) c.self.view_is)) found in
    let indexed = subst (IsIndexed (relation_at (block_tree c.block-block.result.now).relations relation)) (sym c.column_of_edge-column.ensures) lent in
    let on : IsTrue c.is_indexed.result = c.is_indexed.ensures.1 indexed in
    cc)

pub returns : goal.returns
returns c =
    let edge = c.args.edge in
    let left = c.args.left in
    narrow c.args.self.now (λ node. node ≡ root.IndexLoop edge left c.args.relation) (IsLookUpBy edge left) c.args.start c.consider.result
    (subst (λ one. Considers c.args.self.now (λ node. node ≡ one) c.args.start c.consider.result)
    (c.offered-join.ensures.root ∙ ap (λ side. root.IndexLoop edge side c.args.relation) c.number.ensures) c.consider.ensures)
    (λ node group stands. looked-up c.args.self.now edge left c.args.relation c.requires.relation node group stands)
