use Rattle.std.proofs.Common.{refl, arith}
use Rattle.row_filter.proofs.Covers.{pushed}
use Rattle.row_filter.proofs.union.RangeUnion.push.Goals as goal

pub returns : goal.returns
returns c = λ texts kinds other known test added is. pushed texts kinds test other c.args.self.now _ c.args.known (omega (arith, c.if-self-ge-MOST_REGIONS.false)) refl refl refl known is
