use Rattle.std.proofs.Common.{◌<◌, length, subst, sym}
use Rattle.plan_tree.proofs.Indexes.{indexed-exists}
use Rattle.plan_tree.proofs.rules.has_usable_on.Goals as goal

pub has_usable-requires : goal.has_usable-requires
has_usable-requires c =
    let relations = c.args.block.now.relations in
    let found = c.index-relations-relation.result in
    let is = rw c.relations.ensures.relations at c.index-relations-relation.is in
    subst (λ columns. c.args.column < length columns) (sym c.as_slice.ensures)
    (indexed-exists c.args.block.now.parameters relations c.args.relation c.args.column found c.requires.relation is c.relations.ensures.block.relations c.requires.column)
