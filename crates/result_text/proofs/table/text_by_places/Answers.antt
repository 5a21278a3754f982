use Rattle.std.proofs.Common.{◌∙◌, ◌++◌, ap, length, map, sym}
use Rattle.sql_values.specs.Stored.{values_of}
use Rattle.result_text.proofs.TableText.{length-words_of, placed_in_order, text_of_rows}
use Rattle.result_text.proofs.table.text_by_places.Goals as goal

pub by_places-requires : goal.by_places-requires
by_places-requires c =
    let told = c.in_ok-texts.ensures.placed in
    length-words_of told.0 c.args.rows.now told.2.long ∙ ap length (sym (c.deref.ensures.value ∙ told.1))

pub text_in_turn-requires : goal.text_in_turn-requires
text_in_turn-requires c =
    let told = c.in_ok-texts.ensures.placed in
    let order = placed_in_order c.args.texts.now c.in_ok-texts.field-0.texts.sorted c.args.kinds.now c.args.rows.now c.in_ok-sorted.sorted.items c.deref.result.now
    c.in_ok-texts.ensures.ascending (told.0, c.deref.ensures.value ∙ told.1, told.2) c.in_ok-sorted.ensures in
    rw (c.in_ok-texts.ensures.known, c.deref-2.ensures.value) order.1

pub returns : goal.returns
returns c =
    let told = c.in_ok-texts.ensures.placed in
    let sorted = c.in_ok-texts.field-0.texts.sorted in
    let order = placed_in_order c.args.texts.now sorted c.args.kinds.now c.args.rows.now c.in_ok-sorted.sorted.items c.deref.result.now
    c.in_ok-texts.ensures.ascending (told.0, c.deref.ensures.value ∙ told.1, told.2) c.in_ok-sorted.ensures in
    text_of_rows (c.args.texts.now ++ sorted) c.args.kinds.now c.args.names.now (map (values_of c.args.texts.now c.args.kinds.now) c.args.rows.now) _ _ _
    c.deref-2.ensures.value order.0 (rw c.in_ok-texts.ensures.known at c.text_in_turn.ensures)
