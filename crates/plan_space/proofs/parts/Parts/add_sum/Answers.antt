use Rattle.std.proofs.Common.{List, ◌≡◌, ◌∙◌, ◌+◌, ◌<◌, ap, sym, subst, arith, length}
use Rattle.std.proofs.lemmas.Grind.{common_steps}
use Rattle.plan_space.specs.Parts.{PartsShape, node_at}
use Rattle.plan_space.specs.declared.node.Node.{Node}
use Rattle.plan_space.specs.declared.part_sums.PartSum.{PartSum}
use Rattle.plan_space.specs.PartSums.{ArePartSums, HasSides, IsFoundOrAdded}
use Rattle.plan_space.proofs.PartNumbers.{parts-long}
use Rattle.plan_space.proofs.PartCosts.{known-here}
use Rattle.plan_space.proofs.PartSums.{sums-more}
use Rattle.plan_space.proofs.parts.Parts.add_sum.Goals as goal

pub offset_bounds-as_slice-number : goal.offset_bounds-as_slice-number
offset_bounds-as_slice-number c =
    let less : c.args.number < length c.as_slice.result.now =
    omega (arith, c.requires.number, ap length c.as_slice.ensures.value, parts-long c.self.inside.nodes.items, ap (λ (shape : PartsShape). length shape.plans) c.self.view_is) in
    grind (arith, common_steps, less, c.as_slice.type_inv)

pub bounds-as_slice-number : goal.bounds-as_slice-number
bounds-as_slice-number c =
    omega (arith, c.requires.number, ap length c.as_slice.ensures.value, parts-long c.self.inside.nodes.items, ap (λ (shape : PartsShape). length shape.plans) c.self.view_is)

pub returns-clause-sums : goal.returns-clause-sums
returns-clause-sums c =
    let shape = c.args.self.now in
    let number = c.args.number in
    let nodes = c.self.inside.nodes.items in
    let node = node_at nodes number in
    let sum = c.sum_of.result in
    let same = ap (λ all. node_at all number) c.as_slice.ensures.value in
    let many : c.len.result ≡ length shape.plans =
    c.len.ensures ∙ sym c.as_slice.ensures.len ∙ ap length c.as_slice.ensures.value ∙ sym (parts-long nodes) ∙ ap (λ (one : PartsShape). length one.plans) c.self.view_is in
    subst (λ sums. ArePartSums shape c.place_of.new.nodes.items sums (number + 1)) (sym {A = List PartSum} c.in_ok-push.ensures.items)
    (sums-more shape c.args.sums.now.nodes.items c.place_of.new.nodes.items c.args.sums.now.parts.items node c.over_sets.result sum number c.requires.before
    (record {
      part = known-here shape c.self.inside.block.now nodes number c.self.view_is c.self.invariant.0 c.requires.number;
      found = subst (IsFoundOrAdded c.args.sums.now.nodes.items c.place_of.new.nodes.items c.over_sets.result) (sym c.sum_of.ensures.node) c.in_ok-place.ensures.there;
      root = c.over_sets.ensures.root ∙ ap (λ (one : Node). one.root) same;
      set = c.over_sets.ensures.set ∙ ap (λ (one : Node). one.set) same;
      sides = subst (λ none. HasSides node.root node.left node.right none sum) many
          (subst (λ (one : Node). HasSides one.root one.left one.right c.len.result sum) same c.sum_of.ensures.sides);
    }))
