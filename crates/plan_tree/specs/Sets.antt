-- Sets of relations as numbers, and the edges between two sets.
use Rattle.std.specs.Prelude.{ℕ, ◌^◌, ◌&&◌, ◌||◌, not, bit_and, nat_eq, Bool}
use Rattle.query_block.specs.declared.edge.Edge.{Edge}
use Rattle.query_block.specs.Meaning.{RelationSet}

-- the set for which a number stands: relation r is in it where bit r is 1
abbrev pub set_of : ℕ → RelationSet
set_of set relation = not (nat_eq (bit_and set (2 ^ relation)) 0)

-- whether an edge has one of its relations in each of two sets
abbrev pub is_between : RelationSet → RelationSet → Edge → Bool
is_between left right edge = (left edge.left && right edge.right) || (left edge.right && right edge.left)
