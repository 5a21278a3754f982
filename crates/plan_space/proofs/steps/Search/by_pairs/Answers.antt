use Rattle.std.proofs.Common.{◌≡◌, ◌⊎◌, subst}
use Rattle.plan_tree.specs.declared.roots.Root.TheVariants as root
use Rattle.plan_space.specs.Steps.{Considers}
use Rattle.plan_space.proofs.Considered.{and-then}
use Rattle.plan_space.proofs.steps.Search.by_pairs.Goals as goal

pub returns : goal.returns
returns c =
    let sought = c.args.self.now in
    let edge = c.args.edge in
    let left = c.args.left in
    and-then sought (λ node. node ≡ root.Hash edge left) (λ node. node ≡ root.Merge edge left)
    (λ node. (node ≡ root.Hash edge left) ⊎ (node ≡ root.Merge edge left)) c.args.start c.consider-found.result c.consider.result
    (subst (λ side. Considers sought (λ node. node ≡ root.Hash edge side) c.args.start c.consider-found.result) c.number-side.ensures
    (subst (λ one. Considers sought (λ node. node ≡ one) c.args.start c.consider-found.result) c.offered.ensures.root c.consider-found.ensures))
    (subst (λ side. Considers sought (λ node. node ≡ root.Merge edge side) c.consider-found.result c.consider.result) c.number-side.ensures
    (subst (λ one. Considers sought (λ node. node ≡ one) c.consider-found.result c.consider.result) c.offered-2.ensures.root c.consider.ensures))
    (λ node group stands. group)
