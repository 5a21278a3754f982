use Rattle.std.proofs.Common.{◌≡◌, ◌∙◌, ◌<◌, ◌++◌, [], ◌∷◌, refl, ap, sym, subst, arith, length, length-append}
use Rattle.std.proofs.lemmas.Grind.{common_steps}
use Rattle.query_block.specs.Blocks.{block_tree}
use Rattle.plan_space.specs.declared.node.Node.{Node}
use Rattle.plan_space.specs.Parts.{PartsShape, plan_over, parts_behind, AreNodes, IsNodeOver, IsNthPlan, IsSameNode, KeepsParts, node_at}
use Rattle.plan_space.proofs.PartNumbers.{keeps-more, last-part, parts-more, nodes-more, part-of-same, parts-long}
use Rattle.plan_space.proofs.parts.Parts.number_of.Goals as goal

pub returns-in-Some-clause-there : goal.returns-in-Some-clause-there
returns-in-Some-clause-there c =
    let nodes = c.self.inside.nodes.items in
    let node = c.args.node in
    let number = c.in-Some.number in
    let less : number < length nodes = omega (arith, c.in-Some.ensures.exists, ap length c.as_slice.ensures.value) in
    let same = subst (λ all. IsSameNode (node_at all number) node) c.as_slice.ensures.value c.in-Some.ensures.same in
    subst (λ parts. IsNthPlan parts (plan_over parts node.root node.left node.right) number) (ap (λ (shape : PartsShape). shape.plans) c.self.view_is)
    (record {
      exists = omega (arith, less, parts-long nodes);
      is = part-of-same (block_tree c.self.inside.block.now) nodes number node c.self.invariant.0 less same;
    })

pub invariant_of-self-2 : goal.invariant_of-self-2
invariant_of-self-2 c =
    let nodes = c.self.inside.nodes.items in
    let node : Node = record { root = c.args.node.root; set = c.args.node.set; left = c.args.node.left; right = c.args.node.right; earlier = c.index-earlier.result.now } in
    let block = block_tree c.self.inside.block.now in
    let over = subst (λ (shape : PartsShape). IsNodeOver (block_tree shape.block) shape.plans node.root node.set node.left node.right) (sym c.self.view_is) c.requires in (
      subst (AreNodes block) (sym c.in_ok-push.ensures.items) (nodes-more block nodes node c.self.invariant.0 over),
      grind (arith, common_steps, c.self.invariant.1),
    )

pub returns-clause-kept : goal.returns-clause-kept
returns-clause-kept c =
    let nodes = c.self.inside.nodes.items in
    let node : Node = record { root = c.args.node.root; set = c.args.node.set; left = c.args.node.left; right = c.args.node.right; earlier = c.index-earlier.result.now } in
    let before : PartsShape = record { block = c.self.inside.block.now; plans = parts_behind [] nodes } in
    let after : PartsShape = record { block = c.self.inside.block.now; plans = parts_behind [] c.push.new.self.items } in
    subst (λ shape. KeepsParts shape after) c.self.view_is
    (keeps-more before after (plan_over (parts_behind [] nodes) node.root node.left node.right) refl (ap (parts_behind []) c.in_ok-push.ensures.items ∙ parts-more nodes node))

pub returns-clause-there : goal.returns-clause-there
returns-clause-there c =
    let nodes = c.self.inside.nodes.items in
    let node : Node = record { root = c.args.node.root; set = c.args.node.set; left = c.args.node.left; right = c.args.node.right; earlier = c.index-earlier.result.now } in
    let p = plan_over (parts_behind [] nodes) node.root node.left node.right in
    let more : c.push.new.self.items ≡ nodes ++ node ∷ [] = c.in_ok-push.ensures.items in
    let there : IsNthPlan (parts_behind [] c.push.new.self.items) p (length nodes) =
    subst (λ all. IsNthPlan (parts_behind [] all) p (length nodes)) (sym more)
    (record { exists = omega (arith, parts-long (nodes ++ node ∷ []), length-append nodes (node ∷ [])); is = last-part nodes node }) in
    subst (λ parts. IsNthPlan (parts_behind [] c.push.new.self.items) (plan_over parts node.root node.left node.right) c.len-number.result) (ap (λ (shape : PartsShape). shape.plans) c.self.view_is)
    (subst (IsNthPlan (parts_behind [] c.push.new.self.items) p) (sym (ap length c.as_slice.ensures.value) ∙ c.as_slice.ensures.len ∙ sym c.len-number.ensures) there)
