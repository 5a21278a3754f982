-- The text of a point, a level behind the other.
use Rattle.std.proofs.Common.{◌≡◌, ℕ, List, [], ◌∷◌, ◌++◌, sym, ap, append-nil}
use Rattle.std.specs.Prelude.{codes, decimal}
use Rattle.workspace.specs.Printed.{point_text}

-- levels behind the first
abbrev pub others_text : List ℕ → List ℕ
others_text [] = []
others_text (level ∷ more) = (codes "," ++ decimal level) ++ others_text more

pub point_text-first : (first : ℕ) (others : List ℕ) → point_text (first ∷ others) ≡ decimal first ++ others_text others
point_text-first first [] = sym (append-nil (decimal first))
point_text-first first (other ∷ more) = ap (λ l. decimal first ++ (codes "," ++ l)) (point_text-first other more)
