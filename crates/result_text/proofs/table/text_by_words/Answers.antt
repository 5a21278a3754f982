use Rattle.std.proofs.Common.{All, map, subst, sym}
use Rattle.std.proofs.lemmas.List.Sorted.{All-permutation}
use Rattle.sql_values.specs.Words.{IsWord}
use Rattle.sql_values.specs.Stored.{AreWordsOf, values_of}
use Rattle.result_text.proofs.Ranks.{Ranks-integer}
use Rattle.result_text.proofs.TableText.{in_order-by_words, text_of_rows}
use Rattle.result_text.proofs.table.text_by_words.Goals as goal

pub text_in_turn-requires : goal.text_in_turn-requires
text_in_turn-requires c =
    let are = AreWordsOf c.args.texts.now c.args.kinds.now in
    subst (All are) (sym c.deref.ensures.value) (All-permutation are _ _ c.in_ok-sorted.ensures.permutation c.requires.words)

pub returns : goal.returns
returns c =
    let texts = c.args.texts.now in
    let told = c.in_ok-sorted.ensures in
    let order = in_order-by_words (IsWord texts) texts c.args.kinds.now (λ k d inside. Ranks-integer (IsWord texts) texts _ (c.requires.integers k d inside))
    c.args.rows.now _ told.permutation told.sorted c.requires.words told.numbers in
    text_of_rows texts c.args.kinds.now c.args.names.now (map (values_of texts c.args.kinds.now) c.args.rows.now) _ _ _ c.deref.ensures.value order c.text_in_turn.ensures
