use Rattle.std.proofs.Common.{◌∙◌, ◌≤◌, ◌++◌, length, map, subst}
use Rattle.std.proofs.lemmas.List.Elements.{All-weaker}
use Rattle.std.proofs.lemmas.List.Sorted.{All-permutation}
use Rattle.sql_values.specs.Words.{IsWord}
use Rattle.result_text.specs.Rows.{WordRow}
use Rattle.sql_values.specs.Stored.{AreWordsOf, values_of}
use Rattle.result_text.proofs.TableText.{woven_in_order, length-words_of, text_of_rows}
use Rattle.result_text.proofs.Weave.{All-select}
use Rattle.result_text.proofs.Zips.{length-AllZip}
use Rattle.result_text.proofs.table.text_by_ties.Goals as goal

pub ties-requires : goal.ties-requires
ties-requires c =
    let texts = c.args.texts.now in
    let kinds = c.args.kinds.now in
    let wide = λ (row : WordRow). c.leading_integers-count.result ≤ length row in
    rw c.deref.ensures.value (All-permutation wide _ _ c.in_ok-sorted.ensures.permutation
    (All-weaker (AreWordsOf texts kinds) wide (λ row h. subst (λ n. c.leading_integers-count.result ≤ n) (length-AllZip (IsWord texts) kinds row h) c.leading_integers-count.ensures.bound) _ c.requires))

pub place_rows-requires : goal.place_rows-requires
place_rows-requires c =
    let are = AreWordsOf c.args.texts.now c.args.kinds.now in
    let turn = All-permutation are _ _ c.in_ok-sorted.ensures.permutation c.requires in
    rw (c.deref-4.ensures.value, c.in_ok-tied.ensures, c.deref-2.ensures.value, c.deref-3.ensures.value) (All-select are c.in_ok-marks.marks.items _ turn)

pub weave_rows-requires-clause-words : goal.weave_rows-requires-clause-words
weave_rows-requires-clause-words c =
    let told = rw c.deref-4.ensures.value at c.in_ok-texts.ensures.placed in
    rw (c.deref-7.ensures.value, c.deref-8.ensures.value, told.1) (length-words_of told.0 c.in_ok-tied.tied.items told.2.long)

pub text_in_turn-requires : goal.text_in_turn-requires
text_in_turn-requires c =
    let sorted = c.in_ok-sorted.ensures in
    let woven = rw (c.deref-5.ensures.value, c.deref-6.ensures.value, c.deref-7.ensures.value, c.deref-8.ensures.value) at c.in_ok-woven.ensures in
    let order = woven_in_order c.args.texts.now c.args.kinds.now c.leading_integers-count.result c.leading_integers-count.ensures.integers c.in_ok-texts.field-0.texts.sorted c.args.rows.now c.in_ok-sorted.sorted.items c.in_ok-tied.tied.items woven.0
    c.in_ok-marks.marks.items c.in_ok-texts.field-0.words.items sorted.permutation sorted.sorted c.requires sorted.numbers
    (rw c.deref.ensures.value at c.in_ok-marks.ensures.long) (rw c.deref.ensures.value at c.in_ok-marks.ensures.marked)
    (rw (c.deref-2.ensures.value, c.deref-3.ensures.value) at c.in_ok-tied.ensures) c.in_ok-texts.ensures.ascending (rw c.deref-4.ensures.value at c.in_ok-texts.ensures.placed) woven.1 in
    rw (c.in_ok-texts.ensures.known, c.deref-9.ensures.value, woven.2) order.1

pub returns : goal.returns
returns c =
    let sorted = c.in_ok-sorted.ensures in
    let woven = rw (c.deref-5.ensures.value, c.deref-6.ensures.value, c.deref-7.ensures.value, c.deref-8.ensures.value) at c.in_ok-woven.ensures in
    let order = woven_in_order c.args.texts.now c.args.kinds.now c.leading_integers-count.result c.leading_integers-count.ensures.integers c.in_ok-texts.field-0.texts.sorted c.args.rows.now c.in_ok-sorted.sorted.items c.in_ok-tied.tied.items woven.0
    c.in_ok-marks.marks.items c.in_ok-texts.field-0.words.items sorted.permutation sorted.sorted c.requires sorted.numbers
    (rw c.deref.ensures.value at c.in_ok-marks.ensures.long) (rw c.deref.ensures.value at c.in_ok-marks.ensures.marked)
    (rw (c.deref-2.ensures.value, c.deref-3.ensures.value) at c.in_ok-tied.ensures) c.in_ok-texts.ensures.ascending (rw c.deref-4.ensures.value at c.in_ok-texts.ensures.placed) woven.1 in
    text_of_rows (c.args.texts.now ++ c.in_ok-texts.field-0.texts.sorted) c.args.kinds.now c.args.names.now (map (values_of c.args.texts.now c.args.kinds.now) c.args.rows.now) _ _ _
    (c.deref-9.ensures.value ∙ woven.2) order.0 (rw c.in_ok-texts.ensures.known at c.text_in_turn.ensures)
