use Rattle.std.proofs.Common.{◌≡◌, ◌∙◌, length, ap, sym, subst}
use Rattle.std.proofs.lemmas.List.{length-map}
use Rattle.sql_values.specs.declared.column.ColumnDef.{ColumnDef}
use Rattle.heap_pages.specs.Rows.{pages_of}
use Rattle.query_block.specs.declared.block.Relation.{Relation}
use Rattle.query_block.specs.Blocks.{relation_tree}
use Rattle.plan_tree.specs.Work.{pages_in, table_rows}
use Rattle.db_catalog.specs.Database.{table_at}
use Rattle.db_catalog.specs.Fits.{FitsTable}
use Rattle.cost_model.specs.Counts.{relation_stats_of}
use Rattle.table_stats.proofs.stats.relation_stats.Goals as goal

pub kept_rows-kept-requires-clause-fits : goal.kept_rows-kept-requires-clause-fits
kept_rows-kept-requires-clause-fits c =
    subst (λ (relation : Relation). FitsTable c.args.db.now (relation_tree relation)) (sym c.in_ok-filter.ensures.relation) c.requires.fits

pub kept_rows-kept-requires-clause-texts : goal.kept_rows-kept-requires-clause-texts
kept_rows-kept-requires-clause-texts c = c.in_ok-filter.ensures.texts ∙ c.texts.ensures.texts

pub kept_rows-kept-requires-clause-columns : goal.kept_rows-kept-requires-clause-columns
kept_rows-kept-requires-clause-columns c =
    c.deref.ensures.value ∙ c.in_ok-columns.ensures
    ∙ ap (λ (relation : Relation). (relation_stats_of c.args.db.now.tables (relation_tree relation)).columns) (sym c.in_ok-filter.ensures.relation)

pub returns : goal.returns
returns c =
    let tables = c.args.db.now.tables in
    let relation = relation_tree c.args.relation.now in
    let table = table_at c.args.db.now c.args.relation.now.table in
    let kept = c.kept_rows-kept.ensures ∙ ap (λ (one : Relation). (relation_stats_of tables (relation_tree one)).kept) c.in_ok-filter.ensures.relation in
    let width : length relation.columns ≡ length table.columns = ap length c.requires.fits.columns ∙ length-map table.columns (λ (column : ColumnDef). column.kind) in
    let pages : c.pages.result ≡ pages_in tables relation = c.pages.ensures ∙ ap (λ n. pages_of n (length (table_rows tables relation))) (sym width) in
    let columns = c.from.ensures ∙ c.in_ok-columns.ensures in
    λ i. record { rows = c.rows-rows.ensures.count i; pages = pages i; kept = kept i; columns = columns i }
