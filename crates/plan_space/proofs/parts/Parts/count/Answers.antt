use Rattle.std.proofs.Common.{ap, length, arith}
use Rattle.std.proofs.lemmas.Grind.{common_steps}
use Rattle.plan_space.specs.Parts.{PartsShape}
use Rattle.plan_space.proofs.PartNumbers.{parts-long}
use Rattle.plan_space.proofs.parts.Parts.count.Goals as goal

pub returns : goal.returns
returns c = grind (arith, common_steps, parts-long c.self.inside.nodes.items, ap (λ (shape : PartsShape). length shape.plans) c.self.view_is, c.len.ensures, c.self.inside.nodes)
