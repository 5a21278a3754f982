use Rattle.std.proofs.Common.{◌∙◌, sym, ap, ap₂, length, map}
use Rattle.std.proofs.lemmas.Result.{IfOk-weaker}
use Rattle.serde_json.specs.View.{items_of}
use Rattle.bouquet_type.specs.Trees.{contour_tree}
use Rattle.bouquet_file.specs.Written.{contour_value, relation_value, file_with}
use Rattle.std.proofs.lemmas.Simd.{map-map}
use Rattle.bouquet_file.proofs.written.file_value.Goals as goal

pub returns : goal.returns
returns c =
    let query = c.args.query.now in
    let bouquet = c.args.bouquet.now in
    let contours = c.in_ok-contours.ensures ∙ ap (map (λ contour. contour_value (contour_tree contour))) c.contours.ensures.contours ∙ sym (map-map contour_value contour_tree bouquet.contours) in
    let relations = c.in_ok-relations.ensures ∙ ap (map relation_value) (c.as_slice.ensures ∙ ap (λ stats. stats.relations) c.stats.ensures) in
    let parameters = ap length (c.parameters-parameters.ensures ∙ ap (λ block. block.parameters) c.block.ensures.block) in
    let levels = c.levels-levels.ensures.levels ∙ ap (λ grid. grid.levels) c.grid.ensures in
    IfOk-weaker c.file_with.result _ _ (λ value built. built
    ∙ ap₂ (λ some others. file_with query (length c.parameters-parameters.result.now) c.levels-levels.result c.threshold.result (items_of some) (items_of others)) contours relations
    ∙ ap₂ (λ n percent. file_with query (length c.parameters-parameters.result.now) n percent (items_of (map contour_value (map contour_tree bouquet.contours))) (items_of (map relation_value bouquet.stats.relations))) levels c.threshold.ensures
    ∙ ap (λ n. file_with query n bouquet.grid.levels bouquet.threshold (items_of (map contour_value (map contour_tree bouquet.contours))) (items_of (map relation_value bouquet.stats.relations))) parameters)
    c.file_with.ensures
