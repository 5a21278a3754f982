use Rattle.std.proofs.Common.{◌∙◌, List, sym, subst}
use Rattle.query_block.specs.Blocks.{block_tree}
use Rattle.cost_model.specs.declared.stats.RelationStats.{RelationStats}
use Rattle.cost_model.specs.declared.stats.Stats.{Stats}
use Rattle.cost_model.specs.Fits.{FitsBlock}
use Rattle.table_stats.proofs.Fitting.{counts-fit}
use Rattle.table_stats.proofs.stats.stats_of.Goals as goal

pub returns-clause-fits : goal.returns-clause-fits
returns-clause-fits c =
    let block = block_tree c.args.block.now in
    let none = c.in_default.is in
    let past = c.product_past.ensures in
    let made : List RelationStats → Stats = λ all. record { relations = all } in
    subst (λ all. FitsBlock block (made all)) (sym (c.from.ensures ∙ c.in_ok-relations.ensures))
    (counts-fit c.args.db.now.tables block past.block (past.few none) (sym past.past ∙ none))
