use Rattle.std.proofs.Common.{All, ◌≡◌, List, length, subst, sym}
use Rattle.std.proofs.lemmas.List.Elements.{All-weaker}
use Rattle.sql_values.specs.Words.{IsWord}
use Rattle.result_text.specs.declared.places.Placed.{Placed}
use Rattle.result_text.specs.Placing.{HavePlaces, IsPlaced}
use Rattle.result_text.specs.Rows.{WordRow}
use Rattle.sql_values.specs.Stored.{AreWordsOf}
use Rattle.result_text.proofs.Placing.{rows_placed}
use Rattle.result_text.proofs.Zips.{length-AllZip}
use Rattle.result_text.proofs.placed.place_rows.Goals as goal

pub placed_words-requires-clause-wide : goal.placed_words-requires-clause-wide
placed_words-requires-clause-wide c =
    let texts = c.args.texts.now in
    let kinds = c.args.kinds.now in
    All-weaker (AreWordsOf texts kinds) (λ (row : WordRow). length row ≡ length kinds) (λ row are. sym (length-AllZip (IsWord texts) kinds row are)) c.args.rows.now c.requires

pub placed_words-requires-clause-there : goal.placed_words-requires-clause-there
placed_words-requires-clause-there c =
    subst (λ (placed : List Placed). All (HavePlaces placed c.args.kinds.now) c.args.rows.now) (sym c.deref.ensures.value) c.in_ok-texts.ensures.all

pub returns-clause-placed : goal.returns-clause-placed
returns-clause-placed c =
    let known = c.args.texts.now in
    let told = c.in_ok-words.ensures in
    let each = subst (All (IsPlaced known c.in_ok-texts.field-0.texts.sorted)) (sym c.deref.ensures.value) c.in_ok-texts.ensures.same in
    (told.0, told.1, rows_placed known c.in_ok-texts.field-0.texts.sorted c.deref.result.now each c.args.kinds.now c.args.rows.now told.0 c.requires told.2)
