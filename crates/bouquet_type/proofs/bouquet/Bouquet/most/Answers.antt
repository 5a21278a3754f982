use Rattle.std.proofs.Common.{arith}
use Rattle.std.proofs.lemmas.Grind.{common_steps}
use Rattle.bouquet_type.proofs.Most.{most_from-next, most_from-end, most-some, most-few}
use Rattle.bouquet_type.proofs.bouquet.Bouquet.most.Goals as goal

pub loop-contour-preserved : goal.loop-contour-preserved
loop-contour-preserved c = grind (arith, common_steps, most_from-next, common_steps)

pub returns-clause-some : goal.returns-clause-some
returns-clause-some c =
    let end = most_from-end c.loop-contour.contour-index c.contours-contour-items.result.now c.loop-contour-test.false in
    let is = c.contours-contour-items.ensures.bouquet in
    grind (arith, common_steps, end, most-some _ _ is.some is.contours)

pub returns-clause-few : goal.returns-clause-few
returns-clause-few c =
    let end = most_from-end c.loop-contour.contour-index c.contours-contour-items.result.now c.loop-contour-test.false in
    let is = c.contours-contour-items.ensures.bouquet in
    grind (arith, common_steps, end, most-few _ _ is.contours)
