-- Relations of a block, as they are kept and as they are seen: they have few columns.
use Rattle.std.proofs.Common.{◌≡◌, ℕ, ◌<◌, ◌≤◌, All, List, [], ◌∷◌, length, get_or, map, sum_by, sym, subst, take, ◌∙◌, ap, refl, arith}
use Rattle.std.proofs.lemmas.Grind.{common_steps}
use Rattle.std.proofs.lemmas.List.Sums.{sum_by-cons}
use Rattle.std.proofs.lemmas.List.{get_or-map, length-map, take-map}
use Rattle.std.proofs.lemmas.List.Elements.{All-nil, All-cons, All-head, All-tail}
use Rattle.sql_values.specs.Limits.{max_columns}
use Rattle.query_block.specs.declared.kind.Kind.{Kind}
use Rattle.query_block.specs.declared.block.Relation.{Relation}
use Rattle.query_block.specs.Blocks.{RelationTree, relation_tree, IsRelation}

abbrev pub IsNarrow : Relation → Type 0
IsNarrow relation = length relation.columns ≤ max_columns

pub narrow : (kinds : List Kind) (relations : List Relation) → All (IsRelation kinds) (map relation_tree relations) → All IsNarrow relations
narrow kinds [] all = All-nil IsNarrow
narrow kinds (relation ∷ relations) all =
    All-cons IsNarrow relation relations (All-head (IsRelation kinds) _ _ all).few (narrow kinds relations (All-tail (IsRelation kinds) _ _ all))

abbrev pub words_in : RelationTree → ℕ
words_in relation = length relation.columns

pub words-map : (relations : List Relation) → sum_by (λ relation. length relation.columns) relations ≡ sum_by words_in (map relation_tree relations)
words-map [] = refl
words-map (relation ∷ relations) = grind (arith, common_steps, sum_by-cons, words-map relations)

pub words-first : (number : ℕ) (relations : List Relation)
    → sum_by (λ relation. length relation.columns) (take number relations) ≡ sum_by words_in (take number (map relation_tree relations))
words-first number relations = words-map (take number relations) ∙ ap (sum_by words_in) (sym (take-map relation_tree number relations))

-- what is so of each relation of a block, as it is seen, is so of the one that is kept at a place
pub of_each : (P : RelationTree → Type 0) (relations : List Relation) (number : ℕ) (relation : Relation) → number < length relations → relation ≡ get_or relations number relation
    → All P (map relation_tree relations) → P (relation_tree relation)
of_each P relations number relation there is all =
    let none : RelationTree = record { table = 0; columns = []; filter = []; indexes = [] } in
    subst P (get_or-map relation_tree relations number relation none there ∙ ap relation_tree (sym is)) (all number none (simp length-map there))
