use Rattle.std.proofs.Common.{[], ap, sym, ◌∙◌}
use Rattle.std.proofs.lemmas.List.{get_or-map, length-map}
use Rattle.query_block.specs.Blocks.{IsRelation, RelationTree, relation_tree}
use Rattle.query_block.proofs.Relations.{of_each}
use Rattle.exec_scan.proofs.relation_place.relation_in.Goals as goal

pub returns-clause-relation : goal.returns-clause-relation
returns-clause-relation c =
    let none : RelationTree = record { table = 0; columns = []; filter = []; indexes = [] } in
    let there = simp length-map at c.requires in
    let is = rw (c.relations.ensures.relations, c.from.ensures) at c.index-relations-from.is in
    sym (get_or-map relation_tree c.args.block.now.relations c.args.number c.index-relations-from.result none there ∙ ap relation_tree (sym is))

pub returns-clause-allowed : goal.returns-clause-allowed
returns-clause-allowed c =
    let there = simp length-map at c.requires in
    let is = rw (c.relations.ensures.relations, c.from.ensures) at c.index-relations-from.is in
    of_each (IsRelation c.args.block.now.parameters) c.args.block.now.relations c.args.number c.index-relations-from.result there is c.relations.ensures.block.relations
