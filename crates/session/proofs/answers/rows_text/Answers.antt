-- The rows print as those that the block means.
use Rattle.std.proofs.Common.{◌≡◌, ◌∙◌, ℕ, List, ap}
use Rattle.query_block.specs.Blocks.{block_tree}
use Rattle.result_text.specs.Combined.{printed, printed_rows}
use Rattle.result_text.specs.Printed.{table_text}
use Rattle.workspace.specs.Printed.{header_of}
use Rattle.session.proofs.RowsPrinted.{printed_meaning}
use Rattle.session.proofs.answers.rows_text.Goals as goal

pub print_rows-requires-clause-words : goal.print_rows-requires-clause-words
print_rows-requires-clause-words c = rw c.texts.ensures.texts c.requires.rows.allowed

pub returns : goal.returns
returns c =
    let database = c.args.database.now in
    let block = block_tree c.args.block.now in
    let words = c.args.rows.now.rows in
    let found : printed_rows c.texts.result.now block words ≡ printed_rows database.texts block words =
    ap (λ (texts : List (List ℕ)). printed_rows texts block words) c.texts.ensures.texts in
    let named : c.deref.result.now ≡ header_of database block = c.deref.ensures.value ∙ c.in_ok-names.ensures in
    let printed_so : table_text c.deref.result.now (printed_rows c.texts.result.now block words) ≡ printed (header_of database block) database.tables block =
    (λ i. table_text (named i) (found i)) ∙ printed_meaning database block words c.requires.rows (header_of database block) in
    c.in_ok-text.ensures ∙ printed_so
