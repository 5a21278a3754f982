use Rattle.std.proofs.Common.{◌∙◌, ◌<◌, ap, arith, length}
use Rattle.std.proofs.lemmas.Grind.{common_steps}
use Rattle.query_block.specs.Blocks.{block_tree}
use Rattle.plan_tree.specs.Plans.{covers_of}
use Rattle.plan_space.specs.Parts.{PartsShape, nth_plan, node_at}
use Rattle.plan_space.proofs.PartNumbers.{parts-long, set-of-part}
use Rattle.plan_space.proofs.parts.Parts.set.Goals as goal

pub offset_bounds-as_slice-number : goal.offset_bounds-as_slice-number
offset_bounds-as_slice-number c =
    let less : c.args.number < length c.as_slice.result.now =
    omega (arith, c.requires, ap length c.as_slice.ensures.value, parts-long c.self.inside.nodes.items, ap (λ (shape : PartsShape). length shape.plans) c.self.view_is) in
    grind (arith, common_steps, less, c.as_slice.type_inv)

pub bounds-as_slice-number : goal.bounds-as_slice-number
bounds-as_slice-number c =
    omega (arith, c.requires, ap length c.as_slice.ensures.value, parts-long c.self.inside.nodes.items, ap (λ (shape : PartsShape). length shape.plans) c.self.view_is)

pub returns : goal.returns
returns c =
    let nodes = c.self.inside.nodes.items in
    let number = c.args.number in
    let less : number < length nodes = omega (arith, c.requires, parts-long nodes, ap (λ (shape : PartsShape). length shape.plans) c.self.view_is) in
    ap (λ all. (node_at all number).set) c.as_slice.ensures.value
    ∙ set-of-part (block_tree c.self.inside.block.now) nodes number c.self.invariant.0 less
    ∙ ap (λ (shape : PartsShape). covers_of (nth_plan shape.plans number)) c.self.view_is
