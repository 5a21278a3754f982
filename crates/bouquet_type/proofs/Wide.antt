-- The rows of a block have a word.
use Rattle.std.proofs.Common.{◌≤◌, List, [], ◌∷◌, length, sum_by, arith}
use Rattle.std.specs.Prelude.{All}
use Rattle.std.proofs.lemmas.List.Elements.{All-head}
use Rattle.std.proofs.lemmas.List.Sums.{sum_by-cons}
use Rattle.query_block.specs.declared.kind.Kind.{Kind}
use Rattle.query_block.specs.Blocks.{BlockTree, RelationTree, IsRelation, IsBlock, width_of}

words-some : (kinds : List Kind) (relations : List RelationTree) → 1 ≤ length relations → All (IsRelation kinds) relations
    → 1 ≤ sum_by (λ relation. length relation.columns) relations
words-some kinds [] some are = absurd (omega (arith, some))
words-some kinds (relation ∷ relations) some are =
    omega (arith, (All-head (IsRelation kinds) relation relations are).some, sum_by-cons (λ (r : RelationTree). length r.columns) relation relations)

pub words_some : (block : BlockTree) → IsBlock block → 1 ≤ width_of block
words_some block is = words-some block.parameters block.relations is.some is.relations
