use Rattle.std.proofs.Common.{◌≡◌, ◌*◌, ◌≤◌, length, sum_by, take}
use Rattle.sql_values.specs.Limits.{max_columns}
use Rattle.query_block.proofs.block.words_of.Given as goal

abbrev pub invariant-loop-relation : goal.invariant-loop-relation
invariant-loop-relation l =
    (l.words ≡ sum_by (λ relation. length relation.columns) (take l.relation-index l.relations)) × (l.words ≤ l.relation-index * max_columns)
