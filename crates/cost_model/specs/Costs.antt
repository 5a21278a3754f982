-- The cost of a plan at a point: the work of its nodes, with cards for the rows that they give.
use Rattle.std.specs.Prelude.{ℕ, ◌+◌, ◌*◌, List, [], ◌∷◌, nat_eq, slice_index_or, unwrap_or, None, if◌then◌else◌}
use Rattle.plan_tree.specs.Plans.{PlanTree, Scan, IndexScan, Nest, Hash, Merge, IndexLoop, has_leaf}
use Rattle.plan_tree.specs.Enumerated.{edge_at, column_on}
use Rattle.plan_tree.specs.Work.{scan_line, index_scan_line, nest_work, hash_work, merge_work, index_loop_work}
use Rattle.cost_model.specs.declared.stats.Stats.{Stats}
use Rattle.cost_model.specs.declared.stats.RelationStats.{RelationStats}
use Rattle.cost_model.specs.declared.stats.IndexStats.{IndexStats}
use Rattle.cost_model.specs.Costing.{CostingTree}
use Rattle.cost_model.specs.AtPoint.{scaled, stats_at}
use Rattle.cost_model.specs.Cards.{selectivity_at, card_of}

-- the counts of the relation of this number, from 0
abbrev pub relation_stats : Stats → (relation : ℕ) → RelationStats
relation_stats stats relation =
    slice_index_or stats.relations relation (record { rows = 0; pages = 0; kept = 0; columns = [] })

-- those of the index on a column
abbrev pub index_on : List IndexStats → (column : ℕ) → IndexStats
index_on [] column = record { column = column; height = 1; matches = None }
index_on (index ∷ more) column = if nat_eq index.column column then index else index_on more column

abbrev pub index_stats : Stats → (relation column : ℕ) → IndexStats
index_stats stats relation column = index_on (relation_stats stats relation).columns column

-- the pairs of rows that are taken to be equal in the columns of an edge
abbrev pub candidate_card : CostingTree → (edge : ℕ) → (point : List ℕ) → (pairs : ℕ) → ℕ
candidate_card costing edge point pairs = scaled pairs (selectivity_at costing.grid point edge)

abbrev pub scan_cost : RelationStats → (out : ℕ) → ℕ
scan_cost stats out = scan_line stats.pages stats.rows out

abbrev pub index_scan_cost : IndexStats → (out : ℕ) → ℕ
index_scan_cost index out = index_scan_line index.height (unwrap_or index.matches 0) out

-- the cost of a plan, whose parts give as many rows as the cards of their sets; an index loop's pairs are those of the left
-- side with all rows of the table, before its filter
abbrev pub cost_of : CostingTree → PlanTree → (point : List ℕ) → ℕ
cost_of costing (Scan relation) point =
    scan_cost (relation_stats (stats_at costing point) relation) (card_of costing (has_leaf (Scan relation)) point)
cost_of costing (IndexScan relation column) point =
    index_scan_cost (index_stats (stats_at costing point) relation column) (card_of costing (has_leaf (IndexScan relation column)) point)
cost_of costing (Nest left right) point =
    cost_of costing left point + cost_of costing right point
    + nest_work (card_of costing (has_leaf left) point) (card_of costing (has_leaf right) point) (card_of costing (has_leaf (Nest left right)) point)
cost_of costing (Hash edge left right) point =
    cost_of costing left point + cost_of costing right point
    + hash_work (card_of costing (has_leaf left) point) (card_of costing (has_leaf right) point)
    (candidate_card costing edge point (card_of costing (has_leaf left) point * card_of costing (has_leaf right) point))
    (card_of costing (has_leaf (Hash edge left right)) point)
cost_of costing (Merge edge left right) point =
    cost_of costing left point + cost_of costing right point
    + merge_work (card_of costing (has_leaf left) point) (card_of costing (has_leaf right) point)
    (candidate_card costing edge point (card_of costing (has_leaf left) point * card_of costing (has_leaf right) point))
    (card_of costing (has_leaf (Merge edge left right)) point)
cost_of costing (IndexLoop edge left relation) point =
    cost_of costing left point
    + index_loop_work (index_stats (stats_at costing point) relation (column_on (edge_at costing.block.edges edge) relation)).height
    (card_of costing (has_leaf left) point)
    (candidate_card costing edge point (card_of costing (has_leaf left) point * (relation_stats (stats_at costing point) relation).rows))
    (card_of costing (has_leaf (IndexLoop edge left relation)) point)
