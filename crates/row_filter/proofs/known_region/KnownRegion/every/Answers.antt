use Rattle.std.proofs.Common.{refl, true}
use Rattle.row_filter.proofs.Covers.{itself}
use Rattle.row_filter.proofs.known_region.KnownRegion.every.Goals as goal

pub returns : goal.returns
returns c = λ texts kinds. record { passed = λ row. true; told = λ row. refl; covers = itself true (λ row. true) }
