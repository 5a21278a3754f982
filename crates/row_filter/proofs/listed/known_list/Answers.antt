use Rattle.std.proofs.Common.{◌<◌, ◌≡◌, [], false, length, rules}
use Rattle.query_block.specs.Conditions.{filter_tree}
use Rattle.query_block.specs.Meaning.{is_true}
use Rattle.query_block.specs.Truth.{truth_of}
use Rattle.row_filter.proofs.InLists.{in-order, no-words}
use Rattle.row_filter.proofs.listed.known_list.Goals as goal

pub returns : goal.returns
returns c =
    let texts = c.args.texts.now in
    let columns = c.args.columns.now in
    let first = c.in_ok-list.list in
    let there : first.column < length columns = search rules in
    let none : first.words.items ≡ [] = search rules in
    record {
      listed = in-order texts columns (λ row. is_true (truth_of (filter_tree c.args.condition.now) row)) c.list_condition.new.list c.sort.new.self c.sort.ensures.column c.sort.ensures.words
          (c.list_condition.ensures (λ row. false) c.if-not-list_condition.false (no-words texts columns first there none));
      sorted = c.sort.ensures.sorted;
    }
