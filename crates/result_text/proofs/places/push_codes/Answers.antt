use Rattle.std.proofs.Common.{◌≡◌, ◌++◌, ◌<◌, ◌∙◌, ap, add-one, append_assoc, length, get_or, take, w64, to_z, of_z, pos, arith}
use Rattle.std.proofs.lemmas.Int.{to_z-of_z}
use Rattle.sql_values.specs.declared.column.ColumnType.TheVariants.{Integer}
use Rattle.result_text.specs.Placing.{text_code, text_codes}
use Rattle.result_text.proofs.Placing.{text_codes-more}
use Rattle.result_text.proofs.places.push_codes.Goals as goal

pub loop-place-preserved : goal.loop-place-preserved
loop-place-preserved c =
    let kinds = c.args.kinds.now in
    let row = c.args.row.now in
    let place = c.loop-place.place in
    let below : place < length kinds = omega arith in
    let inside : place < length row = omega arith in
    let word = get_or row place (pos 0) in
    let code = text_code (get_or kinds place Integer) word in
    let same : to_z w64 (of_z w64 word) ≡ word = grind (arith, to_z-of_z) in
    rw (add-one place, text_codes-more kinds row place Integer (pos 0) below inside)
    (rw same at c.in_ok-push_code.ensures
    ∙ ap (λ codes. codes ++ code) c.loop-place.invariant
    ∙ append_assoc c.args.codes.now.items (text_codes (take place kinds) row) code)
