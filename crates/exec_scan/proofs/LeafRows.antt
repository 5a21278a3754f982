-- The rows of one relation of a block: its rows that meet its filter, each in its place.
use Rattle.std.proofs.Common.{◌≡◌, ℕ, zero, suc, ◌+◌, ◌<◌, true, false, ◌&&◌, List, [], ◌∷◌, length, map, filter, All, refl, ap, ◌∙◌, arith}
use Rattle.std.proofs.lemmas.List.{append-nil}
use Rattle.std.proofs.Math.Bool.{and-true}
use Rattle.std.proofs.lemmas.Simd.{map-map}
use Rattle.std.proofs.lemmas.List.Concat.{flat_map_single}
use Rattle.std.proofs.lemmas.List.Elements.{All-head, All-tail}
use Rattle.sql_values.specs.Stored.{StoredTable, ValueRow}
use Rattle.query_block.specs.declared.edge.Edge.{Edge}
use Rattle.query_block.specs.Blocks.{RelationTree, BlockTree, relation_at, IsEdge}
use Rattle.query_block.specs.Meaning.{Combination, choices, product, rows_at, rows_of, meets_filter, meets_filters, meets_edges}
use Rattle.plan_tree.specs.Plans.{Scan, has_leaf}
use Rattle.db_catalog.proofs.IndexEntries.{filter-map}
use Rattle.exec_scan.specs.Places.{placed_row}

-- the row without values for each relation
abbrev pub nothing : List RelationTree → Combination
nothing relations = map (λ _. []) relations

pub in_leaf : (r n : ℕ) → n ≡ r → has_leaf (Scan r) n ≡ true
in_leaf r n same = grind arith

pub off_leaf : (r n : ℕ) → r < n → has_leaf (Scan r) n ≡ false
off_leaf r n past = grind arith

pub before_leaf : (r n k : ℕ) → n + suc k ≡ r → has_leaf (Scan r) n ≡ false
before_leaf r n k at = grind arith

-- behind the relation there is nothing to choose, and no filter is asked
none_behind : (tables : List StoredTable) (r n : ℕ) (relations : List RelationTree) → r < n
    → (product (choices tables (has_leaf (Scan r)) n relations) ≡ nothing relations ∷ []) × (meets_filters (has_leaf (Scan r)) n relations (nothing relations) ≡ true)
none_behind tables r n [] past = (refl, refl)
none_behind tables r n (relation ∷ relations) past =
    let more = none_behind tables r (n + 1) relations (omega arith) in (rw (off_leaf r n past, more.0), rw (off_leaf r n past) more.1)

-- so the rows of the relation's table are all that is chosen from
chosen : (tables : List StoredTable) (r n k : ℕ) (relations : List RelationTree) → n + k ≡ r → k < length relations
    → product (choices tables (has_leaf (Scan r)) n relations) ≡ map (placed_row relations k) (rows_at tables (relation_at relations k).table)
chosen tables r n k [] at there = absurd (omega (arith, there))
chosen tables r n zero (relation ∷ relations) at there =
    rw (in_leaf r n (omega (arith, at)), (none_behind tables r (n + 1) relations (omega (arith, at))).0)
    (flat_map_single (λ (row : ValueRow). row ∷ nothing relations) (rows_at tables relation.table))
chosen tables r n (suc k) (relation ∷ relations) at there =
    let first = λ (others : Combination). [] ∷ others in
    let rows = map (placed_row relations k) (rows_at tables (relation_at relations k).table) in
    rw (before_leaf r n k at, chosen tables r (n + 1) k relations (omega (arith, at)) (omega (arith, there)))
    (append-nil (map first rows) ∙ map-map first (placed_row relations k) (rows_at tables (relation_at relations k).table))

-- a filter is asked of that relation alone
asked : (r n k : ℕ) (relations : List RelationTree) (row : ValueRow) → n + k ≡ r → k < length relations
    → meets_filters (has_leaf (Scan r)) n relations (placed_row relations k row) ≡ meets_filter (relation_at relations k).filter row
asked r n k [] row at there = absurd (omega (arith, there))
asked r n zero (relation ∷ relations) row at there =
    rw (in_leaf r n (omega (arith, at)), (none_behind [] r (n + 1) relations (omega (arith, at))).1) (and-true (meets_filter relation.filter row))
asked r n (suc k) (relation ∷ relations) row at there = rw (before_leaf r n k at) (asked r (n + 1) k relations row (omega (arith, at)) (omega (arith, there)))

-- no edge is inside one relation
no_edge : (r : ℕ) (relations : List RelationTree) (edges : List Edge) (rows : Combination) → All (IsEdge relations) edges → meets_edges (has_leaf (Scan r)) edges rows ≡ true
no_edge r relations [] rows are = refl
no_edge r relations (edge ∷ edges) rows are =
    grind (arith, (All-head (IsEdge relations) edge edges are).lower, no_edge r relations edges rows (All-tail (IsEdge relations) edge edges are))

pub leaf_rows : (tables : List StoredTable) (block : BlockTree) (r : ℕ) → r < length block.relations → All (IsEdge block.relations) block.edges
    → rows_of tables block (has_leaf (Scan r))
    ≡ map (placed_row block.relations r) (filter (meets_filter (relation_at block.relations r).filter) (rows_at tables (relation_at block.relations r).table))
leaf_rows tables block r there are =
    let meets = λ (rows : Combination). meets_filters (has_leaf (Scan r)) 0 block.relations rows && meets_edges (has_leaf (Scan r)) block.edges rows in
    ap (filter meets) (chosen tables r 0 r block.relations (omega arith) there)
    ∙ filter-map meets (meets_filter (relation_at block.relations r).filter) (placed_row block.relations r) (rows_at tables (relation_at block.relations r).table)
    (λ row. ap (λ b. meets_filters (has_leaf (Scan r)) 0 block.relations (placed_row block.relations r row) && b) (no_edge r block.relations block.edges (placed_row block.relations r row) are)
    ∙ and-true _ ∙ asked r 0 r block.relations row (omega arith) there)
