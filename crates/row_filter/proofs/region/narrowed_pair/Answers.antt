use Rattle.std.proofs.Common.{◌&&◌, ap, ◌∙◌}
use Rattle.row_filter.proofs.AndParts.{and-first}
use Rattle.row_filter.proofs.Covers.{both_of}
use Rattle.row_filter.proofs.Tests.{and-turned}
use Rattle.row_filter.proofs.region.narrowed_pair.Goals as goal

pub returns-then-first-found : goal.returns-then-first-found
returns-then-first-found c = λ texts kinds test other is found. record {
  one = both_of is.one other;
  other = is.other;
  one_told = c.shared.ensures texts kinds is.one other is.one_told found;
  other_told = is.other_told;
  both = λ row. and-turned (is.one row) (other row) (is.other row) ∙ ap (λ b. b && other row) (is.both row);
}

pub returns-then-second-found : goal.returns-then-second-found
returns-then-second-found c = λ texts kinds test other is found. record {
  one = is.one;
  other = both_of is.other other;
  one_told = is.one_told;
  other_told = c.shared-then-second-found.ensures texts kinds is.other other is.other_told found;
  both = λ row. and-first (is.one row) (is.other row) (other row) ∙ ap (λ b. b && other row) (is.both row);
}
