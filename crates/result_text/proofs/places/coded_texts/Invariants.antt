use Rattle.std.proofs.Common.{All, ◌≡◌, map, take}
use Rattle.result_text.specs.Placing.{IsCodedText}
use Rattle.result_text.proofs.places.coded_texts.Given as goal

abbrev pub invariant-loop-code : goal.invariant-loop-code
invariant-loop-code l = record {
  codes : map (λ one. one.code) l.coded.items ≡ take l.code-index l.codes;
  texts : All (IsCodedText l.texts) l.coded.items;
}
