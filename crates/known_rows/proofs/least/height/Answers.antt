use Rattle.std.proofs.Common.{ℕ, ap, subst, sym, ◌∙◌}
use Rattle.std.specs.Prelude.{Contains}
use Rattle.btree_index.specs.Height.{height_of}
use Rattle.query_block.specs.Blocks.{block_tree, relation_at}
use Rattle.db_catalog.specs.Database.{table_at}
use Rattle.db_catalog.specs.Indexes.{index_height}
use Rattle.db_catalog.proofs.IndexEntries.{count-entries, is-indexed}
use Rattle.known_rows.proofs.Tables.{fits-at}
use Rattle.known_rows.proofs.least.height.Goals as goal

pub height-requires : goal.height-requires
height-requires c =
    let database = c.args.meter.now.database in
    let own = relation_at (block_tree c.args.block.now).relations c.args.relation in
    let fits = fits-at database c.args.block.now.relations c.args.relation c.requires.there c.requires.fits in
    subst (λ (table : ℕ). Contains (table_at database table).indexed c.args.column) (sym c.table_of.ensures)
    (is-indexed own.indexes c.args.column (table_at database own.table).indexed fits.indexes c.requires.indexed)

pub returns : goal.returns
returns c =
    let database = c.args.meter.now.database in
    let own = relation_at (block_tree c.args.block.now).relations c.args.relation in
    c.height.ensures ∙ ap (λ (table : ℕ). index_height database table c.args.column) c.table_of.ensures
    ∙ ap height_of (count-entries database own.table c.args.column)
