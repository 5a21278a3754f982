use Rattle.std.proofs.Common.{◌≡◌, ◌∙◌, [], refl}
use Rattle.result_text.specs.TextWriter.{written}
use Rattle.result_text.proofs.TextWriter.{text_alone, text_more}
use Rattle.result_text.proofs.print.text_in_turn.Goals as goal

pub returns-in-Ok : goal.returns-in-Ok
returns-in-Ok g c =
    let made = c.from_writer-writer.ensures in
    let none : written c.from_writer-writer.result ≡ [] = rw (made.wtr, made.empty, c.in_ok-with_capacity.ensures.items) refl in
    c.in-Ok.ensures.ok
    ∙ text_alone _ _ _ none made.cfg made.fields made.wrote (text_more _ _ _ _ _ c.in_ok-write_header.ensures c.in_ok-write_rows.ensures)
