-- The least work that a plan can take, by what is known of numbers of rows and entries. Each node adds its line of the table of
-- work. What is known stands in it for the rows that nodes give, and for candidates, of which a join has no fewer than it gives,
-- and an index loop no fewer than its edge is known to find. What tables and indexes tell without work is exact: rows, pages and
-- heights.
use Rattle.std.specs.Prelude.{ℕ, ◌+◌, ◌*◌, ◌^◌, Bool, List, length, max, nat_eq, if◌then◌else◌}
use Rattle.std.specs.List.{list_any}
use Rattle.sql_values.specs.Stored.{StoredTable}
use Rattle.query_block.specs.declared.edge.Edge.{Edge}
use Rattle.query_block.specs.Blocks.{BlockTree, relation_at}
use Rattle.query_block.specs.Meaning.{RelationSet}
use Rattle.plan_tree.specs.Plans.{PlanTree, Scan, IndexScan, Nest, Hash, Merge, IndexLoop, covers_of, has_leaf}
use Rattle.plan_tree.specs.Enumerated.{column_on, edge_at}
use Rattle.plan_tree.specs.Sets.{is_between}
use Rattle.plan_tree.specs.Work.{height_in, table_rows, scan_work, index_scan_line, nest_work, hash_work, merge_work, index_loop_work}
use Rattle.known_rows.specs.Known.{KnownState, known_entries, known_rows_of}

-- how many rows a leaf gives, at the least: all of its table, where it has no filter
abbrev pub least_of_leaf : List StoredTable → BlockTree → (known : KnownState) → (relation : ℕ) → ℕ
least_of_leaf tables block known relation =
    let own = relation_at block.relations relation in
    if nat_eq (length own.filter) 0 then length (table_rows tables own) else known_rows_of known (2 ^ relation)

-- whether some edge has one of its relations in each of two sets
abbrev pub are_joined : List Edge → (left right : RelationSet) → Bool
are_joined edges left right = list_any (is_between left right) edges

-- how many rows a plan gives, at the least; each row of a side goes with each of the other, where no edge joins them
abbrev pub least_rows : List StoredTable → BlockTree → (known : KnownState) → PlanTree → ℕ
least_rows tables block known (Scan relation) = least_of_leaf tables block known relation
least_rows tables block known (IndexScan relation column) = least_of_leaf tables block known relation
least_rows tables block known (Nest left right) =
    let some = known_rows_of known (covers_of (Nest left right)) in
    if are_joined block.edges (has_leaf left) (has_leaf right) then some
    else max some (least_rows tables block known left * least_rows tables block known right)
least_rows tables block known (Hash edge left right) = known_rows_of known (covers_of (Hash edge left right))
least_rows tables block known (Merge edge left right) = known_rows_of known (covers_of (Merge edge left right))
least_rows tables block known (IndexLoop edge left relation) = known_rows_of known (covers_of (IndexLoop edge left relation))

-- the least work of the outermost node of a plan by itself; a scan by an index reads no fewer rows than it gives
abbrev pub least_own : List StoredTable → BlockTree → (known : KnownState) → PlanTree → ℕ
least_own tables block known (Scan relation) =
    scan_work tables (relation_at block.relations relation) (least_of_leaf tables block known relation)
least_own tables block known (IndexScan relation column) =
    let out = least_of_leaf tables block known relation in
    index_scan_line (height_in tables (relation_at block.relations relation) column) out out
least_own tables block known (Nest left right) =
    nest_work (least_rows tables block known left) (least_rows tables block known right) (least_rows tables block known (Nest left right))
least_own tables block known (Hash edge left right) =
    let out = least_rows tables block known (Hash edge left right) in
    hash_work (least_rows tables block known left) (least_rows tables block known right) out out
least_own tables block known (Merge edge left right) =
    let out = least_rows tables block known (Merge edge left right) in
    merge_work (least_rows tables block known left) (least_rows tables block known right) out out
least_own tables block known (IndexLoop edge left relation) =
    let out = least_rows tables block known (IndexLoop edge left relation) in
    let found = max out (known_entries known edge (covers_of left)) in
    index_loop_work (height_in tables (relation_at block.relations relation) (column_on (edge_at block.edges edge) relation))
    (least_rows tables block known left) found out

-- the least work of a plan: that of all of its nodes
abbrev pub least_work : List StoredTable → BlockTree → (known : KnownState) → PlanTree → ℕ
least_work tables block known (Scan relation) = least_own tables block known (Scan relation)
least_work tables block known (IndexScan relation column) = least_own tables block known (IndexScan relation column)
least_work tables block known (Nest left right) =
    least_work tables block known left + least_work tables block known right + least_own tables block known (Nest left right)
least_work tables block known (Hash edge left right) =
    least_work tables block known left + least_work tables block known right + least_own tables block known (Hash edge left right)
least_work tables block known (Merge edge left right) =
    least_work tables block known left + least_work tables block known right + least_own tables block known (Merge edge left right)
least_work tables block known (IndexLoop edge left relation) =
    least_work tables block known left + least_own tables block known (IndexLoop edge left relation)
