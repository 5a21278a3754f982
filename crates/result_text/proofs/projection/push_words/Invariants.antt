use Rattle.std.proofs.Common.{◌≡◌, ◌++◌, drop}
use Rattle.result_text.specs.Combined.{words_at}
use Rattle.result_text.proofs.projection.push_words.Given as goal

abbrev pub invariant-loop-place : goal.invariant-loop-place
invariant-loop-place l =
    l.words.items ++ words_at (drop l.place-index l.places) l.row ≡ l.fn.words.items ++ words_at l.places l.row
