use Rattle.std.proofs.Common.{◌≡◌, ◌-◌, ◌∙◌, ap, sym, rules}
use Rattle.plan_tree.specs.declared.plan.Plan.{the_lemmas}
use Rattle.plan_tree.specs.declared.plan.Plan.TheVariants as plan
use Rattle.plan_tree.specs.Plans.{plan_tree, covers_of, Nest, Hash, Merge, IndexLoop}
use Rattle.query_block.specs.Blocks.{block_tree}
use Rattle.plan_space.specs.Table.{entry_at}
use Rattle.plan_space.proofs.Filled.{covers-nest, covers-hash, covers-merge, covers-loop}
use Rattle.plan_space.proofs.search.+rebuilt.Goals as goal

pub rebuilt-returns-in_ok-boxed-in-Nest-clause-covers : goal.rebuilt-returns-in_ok-boxed-in-Nest-clause-covers
rebuilt-returns-in_ok-boxed-in-Nest-clause-covers t c =
    let block = block_tree c.args.block.now in
    let left = c.in_ok-left-in-Nest.left in
    let right = c.in_ok-boxed-in-Nest.field-0 in
    let seen : plan_tree (plan.Nest left right) ≡ Nest (plan_tree left.value) (plan_tree right.value) = search (rules, the_lemmas) in
    ap covers_of seen
    ∙ covers-nest block c.args.table.now c.requires.stands c.args.set c.requires.set.some c.requires.set.below c.in-Nest.left _ _
    (ap (λ set. (entry_at c.args.table.now set).root) (sym c.number.ensures) ∙ c.in-Nest.is)
    (c.in_ok-left-in-Nest.ensures.covers ∙ c.new-left.ensures)
    (c.in_ok-boxed-in-Nest.ensures.covers ∙ c.without-right.ensures ∙ ap (λ left. c.args.set - left) c.new-left.ensures)

pub rebuilt-returns-in_ok-boxed-in-Hash-clause-covers : goal.rebuilt-returns-in_ok-boxed-in-Hash-clause-covers
rebuilt-returns-in_ok-boxed-in-Hash-clause-covers t c =
    let block = block_tree c.args.block.now in
    let edge = c.in-Hash.edge in
    let left = c.in_ok-left-in-Hash.left in
    let right = c.in_ok-boxed-in-Hash.field-0 in
    let seen : plan_tree (plan.Hash edge left right) ≡ Hash edge (plan_tree left.value) (plan_tree right.value) = search (rules, the_lemmas) in
    ap covers_of seen
    ∙ covers-hash block c.args.table.now c.requires.stands c.args.set c.requires.set.some c.requires.set.below edge c.in-Hash.left _ _
    (ap (λ set. (entry_at c.args.table.now set).root) (sym c.number.ensures) ∙ c.in-Hash.is)
    (c.in_ok-left-in-Hash.ensures.covers ∙ c.new-left-in-Hash.ensures)
    (c.in_ok-boxed-in-Hash.ensures.covers ∙ c.without-right-in-Hash.ensures ∙ ap (λ left. c.args.set - left) c.new-left-in-Hash.ensures)

pub rebuilt-returns-in_ok-boxed-in-Merge-clause-covers : goal.rebuilt-returns-in_ok-boxed-in-Merge-clause-covers
rebuilt-returns-in_ok-boxed-in-Merge-clause-covers t c =
    let block = block_tree c.args.block.now in
    let edge = c.in-Merge.edge in
    let left = c.in_ok-left-in-Merge.left in
    let right = c.in_ok-boxed-in-Merge.field-0 in
    let seen : plan_tree (plan.Merge edge left right) ≡ Merge edge (plan_tree left.value) (plan_tree right.value) = search (rules, the_lemmas) in
    ap covers_of seen
    ∙ covers-merge block c.args.table.now c.requires.stands c.args.set c.requires.set.some c.requires.set.below edge c.in-Merge.left _ _
    (ap (λ set. (entry_at c.args.table.now set).root) (sym c.number.ensures) ∙ c.in-Merge.is)
    (c.in_ok-left-in-Merge.ensures.covers ∙ c.new-left-in-Merge.ensures)
    (c.in_ok-boxed-in-Merge.ensures.covers ∙ c.without-right-in-Merge.ensures ∙ ap (λ left. c.args.set - left) c.new-left-in-Merge.ensures)

pub rebuilt-returns-in_ok-left-in-IndexLoop-clause-covers : goal.rebuilt-returns-in_ok-left-in-IndexLoop-clause-covers
rebuilt-returns-in_ok-left-in-IndexLoop-clause-covers t c =
    let block = block_tree c.args.block.now in
    let edge = c.in-IndexLoop.edge in
    let relation = c.in-IndexLoop.relation in
    let left = c.in_ok-left-in-IndexLoop.left in
    let seen : plan_tree (plan.IndexLoop edge left relation) ≡ IndexLoop edge (plan_tree left.value) relation = search (rules, the_lemmas) in
    ap covers_of seen
    ∙ covers-loop block c.args.table.now c.requires.stands c.args.set c.requires.set.some c.requires.set.below edge c.in-IndexLoop.left relation _
    (ap (λ set. (entry_at c.args.table.now set).root) (sym c.number.ensures) ∙ c.in-IndexLoop.is)
    (c.in_ok-left-in-IndexLoop.ensures.covers ∙ c.new.ensures)
