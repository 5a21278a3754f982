use Rattle.std.proofs.Common.{◌≡◌, ◌++◌, drop, map}
use Rattle.result_text.specs.Combined.{words_at}
use Rattle.result_text.specs.Rows.{words_of}
use Rattle.result_text.proofs.projection.projected_rows.Given as goal

abbrev pub invariant-loop : goal.invariant-loop
invariant-loop l =
    let left = map (words_at l.places) (drop l.counter l.rows.rows) in
    (l.left ≡ words_of left) × (l.lent.items ++ left ≡ map (words_at l.places) l.rows.rows)
