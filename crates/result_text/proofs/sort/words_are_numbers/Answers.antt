use Rattle.std.proofs.Common.{pos, arith, get_or, ◌≤ℤ◌}
use Rattle.std.proofs.lemmas.Int.{ints}
use Rattle.std.proofs.lemmas.List.Elements.{All-more}
use Rattle.sql_values.specs.Words.{null_word}
use Rattle.result_text.proofs.sort.words_are_numbers.Goals as goal

pub loop-word-preserved : goal.loop-word-preserved
loop-word-preserved c =
    let word = get_or c.args.row.now c.loop-word.word-index (pos 0) in
    let low : null_word ≤ℤ word = omega (arith, ints) in
    All-more (λ word. null_word ≤ℤ word) c.args.row.now c.loop-word.word-index (pos 0) (omega arith) c.loop-word.invariant low
