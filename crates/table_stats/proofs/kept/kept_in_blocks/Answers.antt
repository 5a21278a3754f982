use Rattle.std.proofs.Common.{◌∙◌, ◌+◌, ◌*◌, count_by, ap, arith}
use Rattle.db_catalog.specs.Database.{table_at}
use Rattle.table_stats.specs.Ready.{is_kept, own}
use Rattle.table_stats.proofs.Counted.{block-more, blocks-all, few-counted}
use Rattle.table_stats.proofs.kept.kept_in_blocks.Goals as goal

pub loop-block-preserved : goal.loop-block-preserved
loop-block-preserved c =
    let rows = (table_at c.args.db.now (own c.args.filter.now).table).rows in
    block-more (is_kept c.args.filter.now) rows c.rows-rows.result c.loop-block.block c.loop-block.kept c.kept_in_span-kept.result c.span_of.result c.rows-rows.ensures.count c.span_of.ensures
    c.loop-block.invariant c.kept_in_span-kept.ensures

pub overflow_add-kept : goal.overflow_add-kept
overflow_add-kept c =
    let rows = (table_at c.args.db.now (own c.args.filter.now).table).rows in
    let next = block-more (is_kept c.args.filter.now) rows c.rows-rows.result c.loop-block.block c.loop-block.kept c.kept_in_span-kept.result c.span_of.result c.rows-rows.ensures.count c.span_of.ensures
    c.loop-block.invariant c.kept_in_span-kept.ensures in
    let few = few-counted (is_kept c.args.filter.now) rows ((c.loop-block.block + 1) * 64) in
    omega (arith, next, few, c.requires.over.few)

pub returns : goal.returns
returns c =
    let rows = (table_at c.args.db.now (own c.args.filter.now).table).rows in
    c.loop-block.invariant
    ∙ ap (count_by (is_kept c.args.filter.now)) (blocks-all (is_kept c.args.filter.now) rows c.rows-rows.result c.loop-block.block c.rows-rows.ensures.count (omega (arith, c.div_ceil-block-end.ensures, c.loop-block-test.false)))
