use Rattle.std.proofs.Common.{◌≡◌, map, take}
use Rattle.serde_json.specs.View.{view}
use Rattle.plan_tree.specs.Plans.{plan_tree}
use Rattle.bouquet_file.specs.Written.{plan_value}
use Rattle.bouquet_file.proofs.written.plan_values.Given as goal

abbrev pub invariant-loop-p : goal.invariant-loop-p
invariant-loop-p l = map view l.values.items ≡ map (λ p. plan_value (plan_tree p)) (take l.p-index l.plans)
