use Rattle.std.proofs.Common.{◌≡◌, ap, ◌∙◌, rules}
use Rattle.query_block.specs.Blocks.{block_tree}
use Rattle.plan_tree.specs.declared.plan.Plan.{Plan, the_lemmas}
use Rattle.plan_tree.specs.Plans.{Nest, has_leaf, plan_tree}
use Rattle.plan_tree.specs.Work.{capped}
use Rattle.known_rows.specs.Known.{known_rows_of}
use Rattle.known_rows.specs.LeastWork.{are_joined, least_rows}
use Rattle.known_rows.proofs.Nodes.{nest-rows}
use Rattle.known_rows.proofs.known.KnownRows.+least_rows.Goals as goal

pub returns-in-Nest : goal.returns-in-Nest
returns-in-Nest t c =
    let tables = c.args.meter.now.database.tables in
    let block = block_tree c.args.block.now in
    let known = c.args.self.now in
    let left = plan_tree c.in-Nest.left.value in
    let right = plan_tree c.in-Nest.right.value in
    let tree : plan_tree c.args.p.now ≡ Nest left right = search (rules, the_lemmas) in
    let rows = λ (p : Plan). capped (least_rows tables block known (plan_tree p)) in
    c.pairs.ensures
    ∙ nest-rows tables block known (plan_tree c.args.p.now) left right c.are_joined.result c.rows-known.result c.least_rows-l.result c.least_rows-r.result tree
    (c.are_joined.ensures ∙ (λ i. are_joined block.edges (has_leaf (plan_tree (c.deref-in-Nest-2.ensures i))) (has_leaf (plan_tree (c.deref-in-Nest-3.ensures i)))))
    (c.rows-known.ensures ∙ ap (λ n. known_rows_of known n) c.relations_of.ensures) c.rows-known.type_inv
    (c.least_rows-l.ensures ∙ ap rows c.deref.ensures) (c.least_rows-r.ensures ∙ ap rows c.deref-in-Nest.ensures)
