use Rattle.std.proofs.Common.{◌≡◌, ◌+◌, ◌-◌, ◌≤◌, ◌++◌, ◌∙◌, ap, arith, drop, length, take}
use Rattle.std.proofs.Math.Seq.{take-add}
use Rattle.std.proofs.lemmas.Grind.{flat_map-append}
use Rattle.result_text.specs.Printed.{record_of}
use Rattle.sql_values.specs.Stored.{values_of}
use Rattle.result_text.proofs.TextWriter.{text_more}
use Rattle.result_text.proofs.print.write_rows.Goals as goal

pub loop-from-preserved : goal.loop-from-preserved
loop-from-preserved g c =
    let from = c.loop-from.from in
    let upto = c.min-upto.result in
    let rows = c.args.rows.now in
    let texts = g.L.TextList.texts c.args.texts.now in
    let within : upto ≤ length rows = omega arith in
    let split : upto ≡ from + (upto - from) = omega arith in
    let parts : take upto rows ≡ take from rows ++ take (upto - from) (drop from rows) = ap (λ n. take n rows) split ∙ take-add from (upto - from) rows in
    (within, rw (parts, flat_map-append (λ row. record_of (values_of texts c.args.kinds.now row)) (take from rows) (take (upto - from) (drop from rows))) (text_more _ _ _ _ _ c.loop-from.invariant.1 c.in_ok-write_gathered.ensures))
