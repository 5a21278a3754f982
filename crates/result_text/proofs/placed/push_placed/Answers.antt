use Rattle.std.proofs.Common.{◌≡◌, ◌++◌, ◌∷◌, [], ◌<◌, ◌∙◌, ap, add-one, append_assoc, length, get_or, w64, to_z, of_z, pos, arith}
use Rattle.std.proofs.lemmas.Int.{to_z-of_z}
use Rattle.sql_values.specs.declared.column.ColumnType.TheVariants.{Integer}
use Rattle.result_text.proofs.Placing.{Contains-text_codes, IsPlacedRow-more}
use Rattle.result_text.proofs.placed.push_placed.Goals as goal

pub placed_word-requires-clause-there : goal.placed_word-requires-clause-there
placed_word-requires-clause-there c =
    let kinds = c.args.kinds.now in
    let row = c.args.row.now in
    let place = c.loop-place.place in
    let below : place < length kinds = omega arith in
    let inside : place < length row = omega arith in
    let word = get_or row place (pos 0) in
    let same : to_z w64 (of_z w64 word) ≡ word = grind (arith, to_z-of_z) in
    rw same (λ code there. c.requires.there code (Contains-text_codes kinds row place Integer (pos 0) code below inside there))

pub loop-place-preserved : goal.loop-place-preserved
loop-place-preserved c =
    let kinds = c.args.kinds.now in
    let row = c.args.row.now in
    let place = c.loop-place.place in
    let below : place < length kinds = omega arith in
    let inside : place < length row = omega arith in
    let word = get_or row place (pos 0) in
    let same : to_z w64 (of_z w64 word) ≡ word = grind (arith, to_z-of_z) in
    let new = c.loop-place.invariant.0 in
    let last = c.placed_word.result in
    let same' : to_z w64 (of_z w64 last) ≡ last = grind (arith, to_z-of_z) in (
      new ++ last ∷ [],
      rw same' at c.in_ok-push.ensures.items ∙ ap (λ words. words ++ last ∷ []) c.loop-place.invariant.1 ∙ append_assoc c.args.words.now.items new (last ∷ []),
      rw (add-one place) (IsPlacedRow-more c.args.placed.now kinds row new place Integer (pos 0) last below inside c.loop-place.invariant.2 (rw same at c.placed_word.ensures)),
    )
