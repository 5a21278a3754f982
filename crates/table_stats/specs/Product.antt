-- How many combinations of one row of each table there are, and the first product that is too great.
use Rattle.std.specs.Prelude.{ℕ, ◌*◌, max, nat_lt, List, [], ◌∷◌, length, map, Option, Some, None, if◌then◌else◌}
use Rattle.sql_values.specs.Limits.{max_product}
use Rattle.sql_values.specs.Stored.{StoredTable}
use Rattle.query_block.specs.Blocks.{RelationTree}
use Rattle.plan_tree.specs.Work.{table_rows}

-- the first product past the limit, from left to right, behind a product so far; a table without rows counts as one row
abbrev pub first_past : (product : ℕ) → (counts : List ℕ) → Option ℕ
first_past product [] = None
first_past product (count ∷ counts) =
    if nat_lt max_product (product * max 1 count) then Some (product * max 1 count)
    else first_past (product * max 1 count) counts

-- how many rows the table of each relation has
abbrev pub row_counts : List StoredTable → List RelationTree → List ℕ
row_counts tables relations = map (λ relation. length (table_rows tables relation)) relations
