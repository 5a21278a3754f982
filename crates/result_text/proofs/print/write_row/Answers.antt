use Rattle.std.proofs.Common.{◌≡◌, ◌<◌, add-one, take, length, get_or, w64, to_z, of_z, pos, arith}
use Rattle.std.proofs.lemmas.Int.{to_z-of_z}
use Rattle.std.proofs.lemmas.List.{map-append, take_all}
use Rattle.std.proofs.lemmas.Result.{on_ok_weaker}
use Rattle.sql_values.specs.declared.column.ColumnType.TheVariants.{Integer}
use Rattle.sql_values.specs.Words.{IsWord}
use Rattle.result_text.proofs.TextWriter.{writes_more, writes_record}
use Rattle.result_text.proofs.Values.{values_of-more}
use Rattle.result_text.proofs.Zips.{length-AllZip, AllZip-at}
use Rattle.result_text.proofs.print.write_row.Goals as goal

pub bounds-row-place : goal.bounds-row-place
bounds-row-place g c = omega (arith, length-AllZip (IsWord (g.L.TextList.texts c.args.texts.now)) _ _ c.requires)

pub write_value-requires : goal.write_value-requires
write_value-requires g c =
    let word = get_or c.args.row.now c.loop-place.place (pos 0) in
    let same : to_z w64 (of_z w64 word) ≡ word = grind (arith, to_z-of_z) in
    rw same (AllZip-at (IsWord (g.L.TextList.texts c.args.texts.now)) _ _ c.loop-place.place Integer (pos 0) c.requires (omega arith))

pub loop-place-preserved : goal.loop-place-preserved
loop-place-preserved g c =
    let texts = g.L.TextList.texts c.args.texts.now in
    let kinds = c.args.kinds.now in
    let row = c.args.row.now in
    let place = c.loop-place.place in
    let long : length kinds ≡ length row = length-AllZip (IsWord texts) _ _ c.requires in
    let below : place < length kinds = omega arith in
    let inside : place < length row = omega arith in
    let word = get_or row place (pos 0) in
    let same : to_z w64 (of_z w64 word) ≡ word = grind (arith, to_z-of_z) in
    rw (add-one place, values_of-more texts kinds row place Integer (pos 0) below inside, map-append)
    (writes_more _ _ _ _ _ c.loop-place.invariant (rw same at c.in_ok-write_value.ensures))

pub returns : goal.returns
returns g c =
    let all : take c.loop-place.place c.args.kinds.now ≡ c.args.kinds.now = take_all _ _ (omega arith) in
    on_ok_weaker c.end_record.result (writes_record _ _ _ _ (rw all at c.loop-place.invariant)) c.end_record.ensures
