use Rattle.std.proofs.Common.{◌≡◌, ◌-◌, ◌≤◌, take, count_by}
use Rattle.narrow_columns.specs.Codes.{is_code_among}
use Rattle.narrow_columns.proofs.scan.count_narrowed.Given as goal

abbrev pub invariant-loop-first : goal.invariant-loop-first
invariant-loop-first g l = record {
  count : l.count ≡ count_by (is_code_among l.range.least l.range.greatest) (take l.first (g.C.CodeList.codes l.codes));
  there : l.first ≤ l.len;
}

abbrev pub decreases-loop-first : goal.decreases-loop-first
decreases-loop-first g l = l.len - l.first
