use Rattle.std.proofs.Common.{◌≡◌, ◌+◌, ◌++◌, length, map, take}
use Rattle.narrow_columns.specs.Codes.{word_of_code}
use Rattle.narrow_columns.proofs.scan.push_codes.Given as goal

abbrev pub invariant-loop-place : goal.invariant-loop-place
invariant-loop-place g l = record {
  words : map (word_of_code l.base) (g.C.CodeList.codes l.to) ≡ map (word_of_code l.base) (g.C.CodeList.codes l.initial.to) ++ map (word_of_code l.old_base) (take l.place (g.D.CodeList.codes l.codes));
  len : length (g.C.CodeList.codes l.to) ≡ length (g.C.CodeList.codes l.initial.to) + l.place;
  held : g.C.CodeList.held l.to ≡ g.C.CodeList.held l.initial.to;
}
