use Rattle.std.proofs.Common.{◌≡◌, ◌≤◌, ◌∙◌, Some, sym, ap, subst}
use Rattle.std.proofs.lemmas.Result.{IfOk-weaker}
use Rattle.serde_json.specs.Data.{depth}
use Rattle.serde_json.specs.View.{view}
use Rattle.serde_json.specs.Written.{has_float, compact_text}
use Rattle.bouquet_type.specs.Trees.{bouquet_tree}
use Rattle.bouquet_file.specs.Written.{file_value}
use Rattle.bouquet_file.proofs.Again.{file_float, file_shallow}
use Rattle.bouquet_file.proofs.Bouquets.{opened-if}
use Rattle.bouquet_file.proofs.written.to_bytes.Goals as goal

pub returns-clause-text : goal.returns-clause-text
returns-clause-text c =
    let tree = bouquet_tree c.args.bouquet.now in
    let query = c.args.query.now in
    let same : view c.in_ok-file_value.field-0 ≡ file_value tree query = c.in_ok-file_value.ensures ∙ ap (file_value tree) c.in-Ok.ensures.cases.0 in
    IfOk-weaker c.to_vec.result _ _ (λ bytes text. text (ap has_float same ∙ file_float tree query) ∙ ap compact_text same) c.to_vec.ensures.text

pub returns-clause-opens : goal.returns-clause-opens
returns-clause-opens c =
    let tree = bouquet_tree c.args.bouquet.now in
    let query = c.args.query.now in
    let same : view c.in_ok-file_value.field-0 ≡ file_value tree query = c.in_ok-file_value.ensures ∙ ap (file_value tree) c.in-Ok.ensures.cases.0 in
    opened-if c.args.bouquet.now query c.to_vec.result c.contours.ensures.bouquet c.requires.parameters c.to_vec.ensures.utf8
    (IfOk-weaker c.to_vec.result _ _ (λ bytes back. back (subst (λ value. depth value ≤ 127) (sym same) (file_shallow tree query)) ∙ ap Some same) c.to_vec.ensures.reads_back)
