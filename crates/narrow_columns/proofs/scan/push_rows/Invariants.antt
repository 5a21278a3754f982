use Rattle.std.proofs.Common.{◌≡◌, ◌+◌, ◌++◌, length, map}
use Rattle.narrow_columns.specs.Codes.{word_of_code}
use Rattle.narrow_columns.specs.Rows.{words_of_column}
use Rattle.narrow_columns.proofs.scan.push_rows.Given as goal

abbrev pub invariant-loop-row : goal.invariant-loop-row
invariant-loop-row g l = record {
  words : map (word_of_code l.base) (g.C.CodeList.codes l.codes) ≡ map (word_of_code l.base) (g.C.CodeList.codes l.initial.codes) ++ words_of_column l.at.width l.at.place l.row l.rows;
  len : length (g.C.CodeList.codes l.codes) ≡ length (g.C.CodeList.codes l.initial.codes) + l.row;
  held : g.C.CodeList.held l.codes ≡ g.C.CodeList.held l.initial.codes;
}
