use Rattle.std.proofs.Common.{◌≡◌, map, take}
use Rattle.serde_json.specs.View.{view}
use Rattle.bouquet_type.specs.Trees.{contour_tree}
use Rattle.bouquet_file.specs.Written.{contour_value}
use Rattle.bouquet_file.proofs.written.contour_values.Given as goal

abbrev pub invariant-loop-contour : goal.invariant-loop-contour
invariant-loop-contour l = map view l.values.items ≡ map (λ contour. contour_value (contour_tree contour)) (take l.contour-index l.contours)
