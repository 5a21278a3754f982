use Rattle.std.proofs.Common.{subst}
use Rattle.row_filter.specs.Regions.{IsRegionOf}
use Rattle.row_filter.proofs.region.Region.narrowed.Goals as goal

pub returns-in-Range : goal.returns-in-Range
returns-in-Range c = λ texts kinds test other is found. c.narrowed_range.ensures texts kinds test other (subst (IsRegionOf texts kinds test) c.in-Range.is is) found
