use Rattle.std.proofs.Common.{◌≡◌, max, ap, ◌∙◌, arith, rules}
use Rattle.query_block.specs.Blocks.{block_tree, relation_at}
use Rattle.plan_tree.specs.declared.plan.Plan.{Plan, the_lemmas}
use Rattle.plan_tree.specs.Plans.{IndexScan, Nest, IndexLoop, covers_of, plan_tree}
use Rattle.plan_tree.specs.Work.{capped, height_in, index_loop_work}
use Rattle.known_rows.specs.Known.{known_entries}
use Rattle.known_rows.specs.LeastWork.{least_rows}
use Rattle.known_rows.proofs.Nodes.{own-index_scan, own-nest, own-index_loop}
use Rattle.known_rows.proofs.known.KnownRows.least_own.Goals as goal

pub returns-in-IndexScan : goal.returns-in-IndexScan
returns-in-IndexScan c =
    let relation = c.in-IndexScan.relation in
    let column = c.in-IndexScan.column in
    let tree : plan_tree c.args.p.now ≡ IndexScan relation column = search (rules, the_lemmas) in
    c.index_scan.ensures
    ∙ own-index_scan c.args.meter.now.database.tables (block_tree c.args.block.now) c.args.self.now (plan_tree c.args.p.now) relation column c.height.result c.least_rows-out.result tree c.height.ensures
    c.least_rows-out.ensures

pub returns-in-Nest : goal.returns-in-Nest
returns-in-Nest c =
    let tables = c.args.meter.now.database.tables in
    let block = block_tree c.args.block.now in
    let known = c.args.self.now in
    let left = plan_tree c.in-Nest.left.value in
    let right = plan_tree c.in-Nest.right.value in
    let tree : plan_tree c.args.p.now ≡ Nest left right = search (rules, the_lemmas) in
    let rows = λ (p : Plan). capped (least_rows tables block known (plan_tree p)) in
    c.nest.ensures
    ∙ own-nest tables block known (plan_tree c.args.p.now) left right c.least_rows-l.result c.least_rows.result c.least_rows-out.result
    (c.least_rows-l.ensures ∙ ap rows c.deref.ensures) (c.least_rows.ensures ∙ ap rows c.deref-in-Nest.ensures) c.least_rows-out.ensures tree

pub returns-in-IndexLoop : goal.returns-in-IndexLoop
returns-in-IndexLoop c =
    let tables = c.args.meter.now.database.tables in
    let block = block_tree c.args.block.now in
    let known = c.args.self.now in
    let left = plan_tree c.in-IndexLoop.left.value in
    let edge = c.in-IndexLoop.edge in
    let relation = c.in-IndexLoop.relation in
    let tree : plan_tree c.args.p.now ≡ IndexLoop edge left relation = search (rules, the_lemmas) in
    let rows = λ (p : Plan). capped (least_rows tables block known (plan_tree p)) in
    let more : c.max-found.result ≡ max c.least_rows-out.result c.entries.result = omega (arith, c.max-found.ensures, c.from.ensures) in
    let of_left = ap (λ set. known_entries known edge set) (c.relations_of.ensures ∙ ap (λ (p : Plan). covers_of (plan_tree p)) c.deref-in-IndexLoop.ensures) in
    c.index_loop.ensures
    ∙ (λ i. capped (index_loop_work c.height-levels.result c.least_rows-in-IndexLoop.result (more i) c.least_rows-out.result))
    ∙ own-index_loop tables block known (plan_tree c.args.p.now) left edge relation c.height-levels.result c.entries.result c.least_rows-in-IndexLoop.result c.least_rows-out.result
    (c.least_rows-in-IndexLoop.ensures ∙ ap rows c.deref-in-IndexLoop-2.ensures) c.least_rows-out.ensures tree
    (c.height-levels.ensures ∙ ap (height_in tables (relation_at block.relations relation)) c.column_of_edge-column.ensures)
    (c.entries.ensures ∙ of_left) c.entries.type_inv
