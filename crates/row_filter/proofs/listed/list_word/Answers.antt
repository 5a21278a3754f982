use Rattle.query_block.specs.Conditions.{filter_tree}
use Rattle.query_block.specs.Meaning.{is_true}
use Rattle.query_block.specs.Truth.{truth_of}
use Rattle.row_filter.proofs.listed.list_word.Goals as goal

pub returns-in-Some : goal.returns-in-Some
returns-in-Some c =
    c.put.ensures c.args.texts.now c.args.columns.now (λ row. is_true (truth_of (filter_tree c.args.condition.now) row)) c.in-Some.ensures
