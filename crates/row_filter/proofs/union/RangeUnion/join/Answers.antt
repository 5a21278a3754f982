use Rattle.std.proofs.Common.{refl, subst}
use Rattle.row_filter.specs.Regions.{IsRegionOf}
use Rattle.row_filter.proofs.Covers.{put-in}
use Rattle.row_filter.proofs.union.RangeUnion.join.Goals as goal

pub returns : goal.returns
returns c = λ texts kinds other found test added is.
    put-in texts kinds test other c.args.self.now _ c.args.place c.joined-known.result c.requires.there refl refl refl
    (λ one here. c.joined-known.ensures texts kinds one other (subst (IsRegionOf texts kinds one) c.in-Range.is here) found) is
