use Rattle.std.proofs.Common.{◌≡◌, max, map}
use Rattle.bouquet_type.specs.Trees.{contour_tree}
use Rattle.bouquet_type.specs.Budgets.{most_plans}
use Rattle.bouquet_type.proofs.Most.{most_from}
use Rattle.bouquet_type.proofs.bouquet.Bouquet.most.Given as goal

abbrev pub invariant-loop-contour : goal.invariant-loop-contour
invariant-loop-contour l = max l.most (most_from l.contour-index l.contour-items) ≡ most_plans (map contour_tree l.contour-items)
