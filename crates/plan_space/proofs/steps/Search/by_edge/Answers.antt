use Rattle.std.proofs.Common.{◌≡◌, ◌⊎◌, ◌-◌, ◌∙◌, ap, inl, inr, arith}
use Rattle.plan_tree.specs.declared.roots.Root.TheVariants as root
use Rattle.plan_tree.proofs.Bits.{lowest-alone}
use Rattle.plan_space.specs.Search.{SearchShape}
use Rattle.plan_space.specs.Steps.{HasEdge, IsLookUpBy}
use Rattle.plan_space.proofs.Considered.{and-then, narrow, of-edge, no-look-up}
use Rattle.plan_space.proofs.steps.Search.by_edge.Goals as goal

pub returns-then-right-relation : goal.returns-then-right-relation
returns-then-right-relation c =
    let sought = c.args.self.now in
    let edge = c.args.edge in
    let left = c.args.left in
    let right = c.number-right.ensures ∙ c.without-2.ensures ∙ ap (λ (one : SearchShape). one.set - left) c.self.view_is in
    narrow sought (λ node. (node ≡ root.Hash edge left) ⊎ (node ≡ root.Merge edge left)) (HasEdge (λ number. number ≡ edge) left) c.args.start c.by_pairs-found.result c.by_pairs-found.ensures
    (λ node group stands. elim (of-edge sought edge left node group) [
      | inl pair ↦ pair
      | inr look_up ↦ absurd (no-look-up sought edge left (λ relation is. c.if-right-relation.true (lowest-alone _ relation (right ∙ is) (omega (arith, right)))) node look_up stands)
    ])

pub returns : goal.returns
returns c =
    let edge = c.args.edge in
    let left = c.args.left in
    and-then c.args.self.now (λ node. (node ≡ root.Hash edge left) ⊎ (node ≡ root.Merge edge left)) (IsLookUpBy edge left)
    (HasEdge (λ number. number ≡ edge) left) c.args.start c.by_pairs-found.result c.by_relation.result c.by_pairs-found.ensures c.by_relation.ensures
    (λ node group stands. of-edge c.args.self.now edge left node group)
