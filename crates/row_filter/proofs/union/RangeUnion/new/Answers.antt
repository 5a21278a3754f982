use Rattle.std.proofs.Common.{[], false, refl, true, arith}
use Rattle.row_filter.proofs.Covers.{itself}
use Rattle.row_filter.proofs.union.RangeUnion.new.Goals as goal

pub returns : goal.returns
returns c = λ texts kinds. record {
  passed = λ row. false;
  told = record { room = refl; few = omega arith; tests = []; told = tt; any = λ row. refl };
  covers = itself true (λ row. false);
}
