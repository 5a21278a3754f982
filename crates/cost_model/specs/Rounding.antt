-- How often a card is halved: a word of the law of rounding alone.
use Rattle.std.specs.Prelude.{ℕ, ◌+◌, List, [], ◌∷◌, slice_index, if◌then◌else◌}
use Rattle.ess_grid.specs.Levels.{halvings_of}
use Rattle.ess_grid.specs.Points.{GridShape}
use Rattle.query_block.specs.declared.edge.Edge.{Edge}
use Rattle.query_block.specs.Meaning.{RelationSet, is_inside}

-- how often the whole is halved for all edges inside a set together, the first of which has this number
abbrev pub halvings_inside : GridShape → (point : List ℕ) → RelationSet → (number : ℕ) → List Edge → ℕ
halvings_inside grid point set number [] = 0
halvings_inside grid point set number (edge ∷ edges) =
    (if is_inside set edge then halvings_of grid.levels (slice_index point number) else 0)
    + halvings_inside grid point set (number + 1) edges
