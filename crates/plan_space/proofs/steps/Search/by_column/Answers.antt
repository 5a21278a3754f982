use Rattle.std.proofs.Common.{◌≡◌, subst}
use Rattle.plan_space.specs.Steps.{Considers}
use Rattle.plan_space.proofs.steps.Search.by_column.Goals as goal

pub returns : goal.returns
returns c = subst (λ one. Considers c.args.self.now (λ node. node ≡ one) c.args.start c.consider.result) c.offered.ensures.root c.consider.ensures
