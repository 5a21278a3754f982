-- The work of a plan on stored tables, as one sum. Each node adds its own work to that of its sides; a charge that is 1 for
-- each row or pair is left out.
use Rattle.std.specs.Prelude.{ℕ, ◌+◌, ◌-◌, ◌*◌, ◌^◌, ◌&&◌, not, min, List, length, map, count_by, sum_by, filter, nat_lt, if◌then◌else◌}
use Rattle.sql_values.specs.declared.op.Op.TheVariants.{Eq}
use Rattle.sql_values.specs.declared.value.Value.{Value}
use Rattle.sql_values.specs.Stored.{StoredTable, ValueRow}
use Rattle.sql_values.specs.Truth.{comparison, is_null}
use Rattle.work_ledger.specs.Charges.{open_charge, page_charge, node_charge, entry_charge, fetch_charge, hash_in_charge, pair_charge}
use Rattle.heap_pages.specs.Rows.{pages_of}
use Rattle.btree_index.specs.Height.{least_from, height_of}
use Rattle.query_block.specs.declared.edge.Edge.{Edge}
use Rattle.query_block.specs.declared.edge.ColumnAt.{ColumnAt}
use Rattle.query_block.specs.Truth.{value_at}
use Rattle.query_block.specs.Blocks.{RelationTree, BlockTree, relation_at, left_of, right_of}
use Rattle.query_block.specs.Meaning.{is_true, meets_filter, rows_at, rows_of, value_in}
use Rattle.plan_tree.specs.Plans.{PlanTree, Scan, IndexScan, Nest, Hash, Merge, IndexLoop, has_leaf}
use Rattle.plan_tree.specs.Usable.{is_fixed_usable}
use Rattle.plan_tree.specs.Enumerated.{edge_at, column_on}

-- how many binary digits a number has: none for 0
abbrev pub bits : ℕ → ℕ
bits n = least_from n 0 (λ digits. nat_lt n (2 ^ digits))

-- a number of 128 bits, the greatest of which stands for every greater one
abbrev pub capped : ℕ → ℕ
capped n = min n (2 ^ 128 - 1)

-- the rows of a relation's table
abbrev pub table_rows : List StoredTable → RelationTree → List ValueRow
table_rows tables relation = rows_at tables relation.table

-- on how many pages they stand
abbrev pub pages_in : List StoredTable → RelationTree → ℕ
pages_in tables relation = pages_of (length relation.columns) (length (table_rows tables relation))

-- the height of the index on a column: it has an entry for each row in which the column isn't NULL
abbrev pub height_in : List StoredTable → RelationTree → (column : ℕ) → ℕ
height_in tables relation column = height_of (count_by (λ row. not (is_null (value_at row column))) (table_rows tables relation))

-- how many rows an index scan reads: the column isn't NULL and meets every usable conjunct on it that has no parameter
abbrev pub matches_in : List StoredTable → RelationTree → (column : ℕ) → ℕ
matches_in tables relation column =
    count_by
    (λ row. not (is_null (value_at row column)) && meets_filter (filter (is_fixed_usable relation.columns column) relation.filter) row)
    (table_rows tables relation)

-- how many rows a plan gives: those on which all filters and all edges inside its set are true
abbrev pub out_of : List StoredTable → BlockTree → PlanTree → ℕ
out_of tables block p = length (rows_of tables block (has_leaf p))

-- how many pairs of equal keys there are that aren't NULL
abbrev pub equal_pairs : List Value → List Value → ℕ
equal_pairs left right = sum_by (λ a. count_by (λ b. is_true (comparison Eq a b)) right) left

-- the column of an edge on the side of a plan
abbrev pub place_on : Edge → PlanTree → ColumnAt
place_on edge side = if has_leaf side edge.left then left_of edge else right_of edge

-- the values of an edge's column in the rows of a side
abbrev pub keys_of : List StoredTable → BlockTree → (edge : ℕ) → PlanTree → List Value
keys_of tables block edge side =
    map (λ rows. value_in rows (place_on (edge_at block.edges edge) side)) (rows_of tables block (has_leaf side))

-- candidates of a join by an edge: pairs of rows of the two sides whose columns of the edge are equal and not NULL
abbrev pub candidates : List StoredTable → BlockTree → (edge : ℕ) → PlanTree → PlanTree → ℕ
candidates tables block edge left right = equal_pairs (keys_of tables block edge left) (keys_of tables block edge right)

-- the same with all rows of a relation's table on the right, before its filter
abbrev pub loop_candidates : List StoredTable → BlockTree → (edge : ℕ) → PlanTree → (relation : ℕ) → ℕ
loop_candidates tables block edge left relation =
    equal_pairs (keys_of tables block edge left)
    (map (λ row. value_at row (column_on (edge_at block.edges edge) relation)) (table_rows tables (relation_at block.relations relation)))

-- the lines of the table of work, one for each kind of node
abbrev pub scan_line : (pages rows out : ℕ) → ℕ
scan_line pages rows out = open_charge + page_charge * pages + rows + out

abbrev pub index_scan_line : (height matches out : ℕ) → ℕ
index_scan_line height matches out = open_charge + node_charge * height + (entry_charge + fetch_charge) * matches + out

abbrev pub nest_work : (l r out : ℕ) → ℕ
nest_work l r out = r + l * r + out

abbrev pub hash_work : (l r cand out : ℕ) → ℕ
hash_work l r cand out = hash_in_charge * r + l + cand + out

-- what sorting so many rows costs
abbrev pub sort_work : (rows : ℕ) → ℕ
sort_work rows = rows * bits rows

abbrev pub merge_work : (l r cand out : ℕ) → ℕ
merge_work l r cand out = sort_work l + sort_work r + l + r + cand + out

abbrev pub index_loop_work : (height l cand out : ℕ) → ℕ
index_loop_work height l cand out = node_charge * height * l + (entry_charge + fetch_charge + pair_charge) * cand + out

-- those of the leaves, by a relation's table
abbrev pub scan_work : List StoredTable → RelationTree → (out : ℕ) → ℕ
scan_work tables relation out = scan_line (pages_in tables relation) (length (table_rows tables relation)) out

abbrev pub index_scan_work : List StoredTable → RelationTree → (column out : ℕ) → ℕ
index_scan_work tables relation column out =
    index_scan_line (height_in tables relation column) (matches_in tables relation column) out

-- the work of a plan
abbrev pub work_of : List StoredTable → BlockTree → PlanTree → ℕ
work_of tables block (Scan relation) =
    scan_work tables (relation_at block.relations relation) (out_of tables block (Scan relation))
work_of tables block (IndexScan relation column) =
    index_scan_work tables (relation_at block.relations relation) column (out_of tables block (IndexScan relation column))
work_of tables block (Nest left right) =
    work_of tables block left + work_of tables block right
    + nest_work (out_of tables block left) (out_of tables block right) (out_of tables block (Nest left right))
work_of tables block (Hash edge left right) =
    work_of tables block left + work_of tables block right
    + hash_work (out_of tables block left) (out_of tables block right) (candidates tables block edge left right) (out_of tables block (Hash edge left right))
work_of tables block (Merge edge left right) =
    work_of tables block left + work_of tables block right
    + merge_work (out_of tables block left) (out_of tables block right) (candidates tables block edge left right) (out_of tables block (Merge edge left right))
work_of tables block (IndexLoop edge left relation) =
    work_of tables block left
    + index_loop_work (height_in tables (relation_at block.relations relation) (column_on (edge_at block.edges edge) relation)) (out_of tables block left)
    (loop_candidates tables block edge left relation) (out_of tables block (IndexLoop edge left relation))
