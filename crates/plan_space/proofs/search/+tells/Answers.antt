use Rattle.std.proofs.Common.{rules, ◌≡◌, ◌∙◌, ◌-◌, refl, ap, sym, subst}
use Rattle.plan_tree.specs.declared.plan.Plan.{Plan, the_lemmas}
use Rattle.plan_tree.specs.declared.plan.Plan.TheVariants as plan
use Rattle.plan_tree.specs.declared.roots.Root.TheVariants as root
use Rattle.plan_tree.specs.Plans.{plan_tree, Nest, Hash, Merge, IndexLoop}
use Rattle.query_block.specs.Blocks.{block_tree}
use Rattle.plan_space.specs.Table.{IsToldPlan, entry_at}
use Rattle.plan_space.proofs.Told.{told-nest, told-hash, told-merge, told-loop}
use Rattle.plan_space.proofs.search.+tells.Goals as goal

pub returns-then-tells : goal.returns-then-tells
returns-then-tells t c = λ yes.
    let table = c.args.table.now in
    let set = c.args.set in
    let left = c.in-Nest.left in
    let right = c.in-Nest.right in
    let side = c.in-Nest-root.side in
    let seen : plan_tree (plan.Nest left right) ≡ Nest (plan_tree left.value) (plan_tree right.value) = search (rules, the_lemmas) in
    let one = subst (IsToldPlan table (plan_tree left.value)) c.new-side.ensures
    (subst (λ (p : Plan). IsToldPlan table (plan_tree p) c.new-side.result) c.deref.ensures (c.if-tells.ensures refl)) in
    let other = subst (IsToldPlan table (plan_tree right.value)) (c.without.ensures ∙ ap (λ n. set - n) c.new-side.ensures)
    (subst (λ (p : Plan). IsToldPlan table (plan_tree p) c.without.result) c.deref-then-tells.ensures (c.tells-then-tells.ensures yes)) in
    let is = ap (λ set. (entry_at table set).root) (sym c.number.ensures) ∙ c.in-Nest-root.is in
    subst (λ p. IsToldPlan table p set) (sym (ap plan_tree c.in-Nest.is ∙ seen))
    (told-nest (block_tree c.args.block.now) table c.requires.stands set c.requires.set.some c.requires.set.below side (plan_tree left.value) one (plan_tree right.value) is other)

pub returns-then-tells-2 : goal.returns-then-tells-2
returns-then-tells-2 t c = λ yes.
    let table = c.args.table.now in
    let set = c.args.set in
    let edge = c.in-Hash.edge in
    let left = c.in-Hash.left in
    let right = c.in-Hash.right in
    let side = c.in-Hash-root.side in
    let seen : plan_tree (plan.Hash edge left right) ≡ Hash edge (plan_tree left.value) (plan_tree right.value) = search (rules, the_lemmas) in
    let one = subst (IsToldPlan table (plan_tree left.value)) c.new-side-in-Hash-root.ensures
    (subst (λ (p : Plan). IsToldPlan table (plan_tree p) c.new-side-in-Hash-root.result) c.deref-in-Hash-root.ensures (c.if-tells-2.ensures refl)) in
    let other = subst (IsToldPlan table (plan_tree right.value)) (c.without-then-tells-2.ensures ∙ ap (λ n. set - n) c.new-side-in-Hash-root.ensures)
    (subst (λ (p : Plan). IsToldPlan table (plan_tree p) c.without-then-tells-2.result) c.deref-then-tells-2.ensures (c.tells-then-tells-2.ensures yes)) in
    let is = ap (λ set. (entry_at table set).root) (sym c.number.ensures) ∙ c.in-Hash-root.is ∙ ap (λ edge. root.Hash edge side) c.if-other-edge.true in
    subst (λ p. IsToldPlan table p set) (sym (ap plan_tree c.in-Hash.is ∙ seen))
    (told-hash (block_tree c.args.block.now) table c.requires.stands set c.requires.set.some c.requires.set.below side (plan_tree left.value) one edge (plan_tree right.value) is other)

pub returns-then-tells-3 : goal.returns-then-tells-3
returns-then-tells-3 t c = λ yes.
    let table = c.args.table.now in
    let set = c.args.set in
    let edge = c.in-Merge.edge in
    let left = c.in-Merge.left in
    let right = c.in-Merge.right in
    let side = c.in-Merge-root.side in
    let seen : plan_tree (plan.Merge edge left right) ≡ Merge edge (plan_tree left.value) (plan_tree right.value) = search (rules, the_lemmas) in
    let one = subst (IsToldPlan table (plan_tree left.value)) c.new-side-in-Merge-root.ensures
    (subst (λ (p : Plan). IsToldPlan table (plan_tree p) c.new-side-in-Merge-root.result) c.deref-in-Merge-root.ensures (c.if-tells-3.ensures refl)) in
    let other = subst (IsToldPlan table (plan_tree right.value)) (c.without-then-tells-3.ensures ∙ ap (λ n. set - n) c.new-side-in-Merge-root.ensures)
    (subst (λ (p : Plan). IsToldPlan table (plan_tree p) c.without-then-tells-3.result) c.deref-then-tells-3.ensures (c.tells-then-tells-3.ensures yes)) in
    let is = ap (λ set. (entry_at table set).root) (sym c.number.ensures) ∙ c.in-Merge-root.is ∙ ap (λ edge. root.Merge edge side) c.if-other-edge-2.true in
    subst (λ p. IsToldPlan table p set) (sym (ap plan_tree c.in-Merge.is ∙ seen))
    (told-merge (block_tree c.args.block.now) table c.requires.stands set c.requires.set.some c.requires.set.below side (plan_tree left.value) one edge (plan_tree right.value) is other)

pub returns-in-IndexLoop-root : goal.returns-in-IndexLoop-root
returns-in-IndexLoop-root t c = λ yes.
    let table = c.args.table.now in
    let set = c.args.set in
    let edge = c.in-IndexLoop.edge in
    let left = c.in-IndexLoop.left in
    let relation = c.in-IndexLoop.relation in
    let side = c.in-IndexLoop-root.side in
    let seen : plan_tree (plan.IndexLoop edge left relation) ≡ IndexLoop edge (plan_tree left.value) relation = search (rules, the_lemmas) in
    let one = subst (IsToldPlan table (plan_tree left.value)) c.new.ensures
    (subst (λ (p : Plan). IsToldPlan table (plan_tree p) c.new.result) c.deref-in-IndexLoop-root.ensures (c.tells-in-IndexLoop-root.ensures yes)) in
    let is = ap (λ set. (entry_at table set).root) (sym c.number.ensures) ∙ c.in-IndexLoop-root.is
    ∙ (λ i. root.IndexLoop (c.if-other-edge-3.true i) side (c.if-right-relation.true i)) in
    subst (λ p. IsToldPlan table p set) (sym (ap plan_tree c.in-IndexLoop.is ∙ seen))
    (told-loop (block_tree c.args.block.now) table c.requires.stands set c.requires.set.some c.requires.set.below side (plan_tree left.value) one edge relation is)
