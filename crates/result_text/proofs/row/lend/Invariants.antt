use Rattle.std.proofs.Common.{◌≡◌, ◌++◌, drop, length, map, sum_by, take}
use Rattle.result_text.specs.Rows.{words_of}
use Rattle.result_text.proofs.row.lend.Given as goal

abbrev pub invariant-loop-row : goal.invariant-loop-row
invariant-loop-row l = record {
  words : words_of l.lent.items ++ l.left ≡ l.words;
  long : map length l.lent.items ≡ map length (take l.row-index l.like);
  left : sum_by length (drop l.row-index l.like) ≡ length l.left;
}
