use Rattle.std.proofs.Common.{◌<◌, ◌≡◌, ◌∙◌, length, ap, subst}
use Rattle.plan_tree.specs.declared.roots.Root.TheVariants as root
use Rattle.plan_space.specs.Steps.{Considers, HasLeft, HasEdge}
use Rattle.plan_space.proofs.Considered.{and-then, of-left}
use Rattle.plan_space.proofs.steps.Search.by_left.Goals as goal

pub returns : goal.returns
returns c =
    let sought = c.args.self.now in
    let left = c.new-left.result in
    subst (λ one. Considers sought (HasLeft (λ side. side ≡ one)) c.args.start c.by_edges.result) c.new-left.ensures
    (and-then sought (λ node. node ≡ root.Nest left) (HasEdge (λ number. number < length sought.at.costing.block.edges) left) (HasLeft (λ side. side ≡ left))
    c.args.start c.consider-found.result c.by_edges.result
    (subst (λ one. Considers sought (λ node. node ≡ one) c.args.start c.consider-found.result) (c.offered.ensures.root ∙ ap root.Nest c.number-2.ensures) c.consider-found.ensures) c.by_edges.ensures
    (of-left sought left))
