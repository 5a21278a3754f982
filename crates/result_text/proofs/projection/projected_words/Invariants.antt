use Rattle.std.proofs.Common.{◌≡◌, ◌++◌, ℤ, List, drop, map}
use Rattle.result_text.specs.Combined.{words_at}
use Rattle.result_text.specs.Rows.{WordRow, words_of}
use Rattle.result_text.proofs.projection.projected_words.Given as goal

abbrev pub invariant-loop-i : goal.invariant-loop-i
invariant-loop-i l =
    let words : List WordRow → List ℤ = λ rows. words_of (map (words_at l.places) rows) in
    l.words.items ++ words (drop l.i l.rows.rows) ≡ words l.rows.rows
