use Rattle.std.proofs.Common.{◌≡◌, ◌∙◌, sym, ap, ap₂, map, codes, rules}
use Rattle.serde_json.specs.Data.{string, array, object, member, no_members}
use Rattle.serde_json.specs.View.{view, items_of, items_view}
use Rattle.serde_json.specs.declared.value.Value.{the_lemmas}
use Rattle.plan_tree.specs.Plans.{plan_tree}
use Rattle.bouquet_file.specs.Written.{plan_value}
use Rattle.std.proofs.lemmas.Simd.{map-map}
use Rattle.bouquet_file.proofs.written.contour_value.Goals as goal

pub returns : goal.returns
returns c =
    let built : view c.in_ok-value.value ≡ object (member (codes "cost") (string c.format-cost.result.now) (member (codes "plans") (array (items_view c.in_ok-plans.plans.items)) no_members)) =
    search (rules, the_lemmas) in
    let plans = c.in_ok-plans.ensures ∙ ap (map (λ p. plan_value (plan_tree p))) c.as_slice.ensures.value ∙ sym (map-map plan_value plan_tree c.args.contour.now.plans.items) in
    built ∙ ap₂ (λ cost items. object (member (codes "cost") (string cost) (member (codes "plans") (array (items_of items)) no_members))) c.format-cost.ensures.text plans
