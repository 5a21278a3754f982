use Rattle.std.proofs.Common.{ap₂, ◌∙◌}
use Rattle.std.specs.Prelude.{ℕ, Contains, Option}
use Rattle.std.proofs.lemmas.List.Elements.{All-contains}
use Rattle.query_block.specs.Blocks.{relation_tree}
use Rattle.cost_model.specs.declared.stats.IndexStats.{IndexStats}
use Rattle.db_catalog.specs.Database.{table_at}
use Rattle.table_stats.proofs.Matches.{height-are}
use Rattle.table_stats.proofs.indexes.counts.Goals as goal

pub height-requires : goal.height-requires
height-requires c =
    All-contains (Contains (table_at c.args.db.now c.args.relation.now.table).indexed) c.args.relation.now.indexes c.args.column c.requires.stands.fits.indexes c.requires.indexed

pub returns : goal.returns
returns c =
    let made : ℕ → Option ℕ → IndexStats = λ height matches. record { column = c.args.column; height = height; matches = matches } in
    ap₂ made (c.height.ensures ∙ height-are c.args.db.now (relation_tree c.args.relation.now) c.args.column) c.matches.ensures
