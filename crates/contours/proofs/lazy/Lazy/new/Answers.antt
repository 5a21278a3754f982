use Rattle.cost_model.specs.Costing.{costing_tree}
use Rattle.contours.proofs.Foot.{stands-first}
use Rattle.contours.proofs.Soundness.{compiled-sound}
use Rattle.contours.proofs.lazy.Lazy.new.Goals as goal

pub invariant_of-result : goal.invariant_of-result
invariant_of-result c =
    (stands-first c.new.result c.args.outlook c.args.threshold c.new.ensures.costing c.requires c.new.ensures.start).ladder

pub returns-clause-foot : goal.returns-clause-foot
returns-clause-foot c = stands-first c.new.result c.args.outlook c.args.threshold c.new.ensures.costing c.requires c.new.ensures.start

pub returns-clause-sound : goal.returns-clause-sound
returns-clause-sound c = compiled-sound (costing_tree c.args.outlook) c.args.threshold c.new.ensures.costing
