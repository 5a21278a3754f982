use Rattle.std.proofs.Common.{◌∙◌, map, ap}
use Rattle.std.proofs.lemmas.List.{take_all}
use Rattle.query_block.specs.Blocks.{relation_tree}
use Rattle.cost_model.specs.Counts.{index_stats_of}
use Rattle.table_stats.proofs.Relations.{one-pushed}
use Rattle.table_stats.proofs.indexes.index_stats.Goals as goal

pub loop-column-preserved : goal.loop-column-preserved
loop-column-preserved c =
    let counted = index_stats_of c.args.db.now.tables (relation_tree c.args.relation.now) in
    one-pushed counted c.as_slice-indexes.result.now c.loop-column.column-index 0 c.loop-column.stats.items c.push.new.self.items c.counts.result c.loop-column-test.true
    c.loop-column.invariant c.in_ok-push.ensures.items c.counts.ensures

pub returns : goal.returns
returns c =
    let counted = index_stats_of c.args.db.now.tables (relation_tree c.args.relation.now) in
    c.loop-column.invariant
    ∙ ap (map counted) (take_all c.loop-column.column-index c.as_slice-indexes.result.now c.loop-column-test.false ∙ c.as_slice-indexes.ensures)
