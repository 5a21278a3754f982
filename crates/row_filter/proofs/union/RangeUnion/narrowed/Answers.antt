use Rattle.row_filter.proofs.Covers.{both_of}
use Rattle.row_filter.proofs.union.RangeUnion.narrowed.Goals as goal

pub returns : goal.returns
returns c = λ texts kinds test other is found. c.of_range.ensures texts kinds (both_of test other) (c.shared.ensures texts kinds test other (c.in_ok-own.ensures texts kinds test is) found)
