use Rattle.std.proofs.Common.{◌∷◌, [], refl, arith}
use Rattle.row_filter.proofs.Tests.{only-test}
use Rattle.row_filter.proofs.union.RangeUnion.of_range.Goals as goal

pub returns : goal.returns
returns c = λ texts kinds test is. record { room = refl; few = omega arith; tests = test ∷ []; told = (is, tt); any = λ row. only-test test row }
