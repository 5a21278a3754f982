use Rattle.std.proofs.Common.{refl}
use Rattle.plan_space.proofs.Considered.{chosen}
use Rattle.plan_space.proofs.steps.Search.consider.Goals as goal

pub returns : goal.returns
returns c = chosen c.args.self.now c.args.start c.keep.result c.args.offered c.args.offered.root c.requires refl
    c.keep.ensures.either c.keep.ensures.to_found c.keep.ensures.to_offered
