-- The indexed columns of a relation of a block exist.
use Rattle.std.proofs.Common.{◌≡◌, ℕ, ◌<◌, List, [], ◌∷◌, All, IsTrue, length, map, get_or, nat_eq, subst, sym, ap, ◌∙◌, arith}
use Rattle.std.specs.List.{list_any}
use Rattle.std.proofs.lemmas.List.{get_or-map}
use Rattle.std.proofs.lemmas.List.Elements.{All-get_or, All-head, All-tail}
use Rattle.std.proofs.Math.ListN.{length-map}
use Rattle.query_block.specs.declared.block.Relation.{Relation}
use Rattle.query_block.specs.declared.kind.Kind.{Kind}
use Rattle.query_block.specs.Blocks.{RelationTree, IsRelation, relation_tree, relation_at}
use Rattle.plan_tree.specs.Enumerated.{IsIndexed}

indexed-below : (indexes : List ℕ) (column n : ℕ) → All (λ c. c < n) indexes → IsTrue (list_any (λ other. nat_eq other column) indexes) → column < n
indexed-below [] column n all indexed = grind arith
indexed-below (index ∷ indexes) column n all indexed =
    grind (arith, All-head (λ c. c < n) index indexes all, indexed-below indexes column n (All-tail (λ c. c < n) index indexes all))

pub indexed-exists : (kinds : List Kind) (relations : List Relation) (number column : ℕ) (relation : Relation) → number < length relations → relation ≡ get_or relations number relation
    → All (IsRelation kinds) (map relation_tree relations) → IsIndexed (relation_at (map relation_tree relations) number) column → column < length relation.columns
indexed-exists kinds relations number column relation below is all indexed =
    let none : RelationTree = record { table = 0; columns = []; filter = []; indexes = [] } in
    let there : number < length (map relation_tree relations) = simp length-map below in
    let same : relation_at (map relation_tree relations) number ≡ relation_tree relation = get_or-map relation_tree relations number relation none below ∙ ap relation_tree (sym is) in
    let fits : IsRelation kinds (relation_at (map relation_tree relations) number) = All-get_or (IsRelation kinds) (map relation_tree relations) number none there all in
    let good : IsRelation kinds (relation_tree relation) = subst (IsRelation kinds) same fits in
    let has : IsIndexed (relation_tree relation) column = subst (λ one. IsIndexed one column) same indexed in
    indexed-below relation.indexes column (length relation.columns) good.indexes has
