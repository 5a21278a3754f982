use Rattle.std.proofs.Common.{◌≡◌, ◌≤◌, All, drop, take, length, map}
use Rattle.sql_values.specs.Limits.{max_rows, max_product}
use Rattle.query_block.specs.Blocks.{relation_tree}
use Rattle.plan_tree.specs.Work.{table_rows}
use Rattle.table_stats.specs.Product.{first_past, row_counts}
use Rattle.table_stats.proofs.product.product_past.Given as goal

abbrev pub invariant-loop-relation : goal.invariant-loop-relation
invariant-loop-relation l =
    (first_past 1 (row_counts l.db.tables (map relation_tree l.relation-items))
    ≡ first_past l.product (row_counts l.db.tables (map relation_tree (drop l.relation-index l.relation-items))))
    × (l.product ≤ max_product)
    × All (λ relation. length (table_rows l.db.tables (relation_tree relation)) ≤ max_rows) (take l.relation-index l.relation-items)
