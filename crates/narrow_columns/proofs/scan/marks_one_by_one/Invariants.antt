use Rattle.std.proofs.Common.{◌≡◌, ◌+◌, ◌-◌, ◌≤◌, take, drop, map}
use Rattle.narrow_columns.specs.Codes.{is_code_among}
use Rattle.narrow_columns.specs.Marks.{marks_of}
use Rattle.narrow_columns.proofs.scan.marks_one_by_one.Given as goal

abbrev pub invariant-loop-left : goal.invariant-loop-left
invariant-loop-left g l = record {
  marks : l.marks ≡ marks_of (map (is_code_among l.range.least l.range.greatest) (take (l.count - l.left) (drop (l.first + l.left) (g.C.CodeList.codes l.codes))));
  there : l.left ≤ l.count;
}

abbrev pub decreases-loop-left : goal.decreases-loop-left
decreases-loop-left g l = l.left
