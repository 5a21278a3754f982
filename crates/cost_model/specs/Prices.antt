-- What each node of a plan costs by itself at a point, by the cards of its sides' sets.
use Rattle.std.specs.Prelude.{◌≡◌, ℕ, ◌+◌, ◌-◌, ◌*◌, ◌^◌, ◌<◌, ◌≤◌, List, length, slice_index}
use Rattle.plan_tree.specs.Plans.{PlanTree, Scan, IndexScan, Nest, Hash, Merge, IndexLoop, covers_of}
use Rattle.plan_tree.specs.Enumerated.{edge_at, column_on}
use Rattle.plan_tree.specs.Work.{nest_work, hash_work, merge_work, index_loop_work}
use Rattle.query_block.specs.Blocks.{BlockTree, block_tree}
use Rattle.ess_grid.specs.Points.{IsPoint}
use Rattle.cost_model.specs.Costing.{CostingTree, IsCosting, costing_tree}
use Rattle.cost_model.specs.AtPoint.{stats_at}
use Rattle.cost_model.specs.Cards.{card_of}
use Rattle.plan_tree.specs.Sets.{set_of}
use Rattle.cost_model.specs.Costs.{relation_stats, index_stats, scan_cost, index_scan_cost, candidate_card}
use Rattle.plan_tree.specs.Roots.{IsSplit}
use Rattle.sql_values.specs.Limits.{max_product}
use Rattle.plan_tree.specs.declared.roots.Root.{Root}
use Rattle.plan_tree.specs.declared.roots.Root.TheVariants as root
use Rattle.cost_model.specs.Pricing.{Pricing}

-- what nodes cost by themselves: a number for each node and set
abbrev pub OwnCost : Type 0
OwnCost = Root → (set : ℕ) → ℕ

-- the card of a set
abbrev pub set_card : CostingTree → (point : List ℕ) → (set : ℕ) → ℕ
set_card costing point set = card_of costing (set_of set) point

-- what a node costs by itself over a set
unfoldable pub own_cost : CostingTree → (point : List ℕ) → OwnCost
own_cost costing point (root.Scan relation) set = scan_cost (relation_stats (stats_at costing point) relation) (set_card costing point set)
own_cost costing point (root.IndexScan relation column) set =
    index_scan_cost (index_stats (stats_at costing point) relation column) (set_card costing point set)
own_cost costing point (root.Nest left) set =
    nest_work (set_card costing point left) (set_card costing point (set - left)) (set_card costing point set)
own_cost costing point (root.Hash edge left) set =
    hash_work (set_card costing point left) (set_card costing point (set - left))
    (candidate_card costing edge point (set_card costing point left * set_card costing point (set - left)))
    (set_card costing point set)
own_cost costing point (root.Merge edge left) set =
    merge_work (set_card costing point left) (set_card costing point (set - left))
    (candidate_card costing edge point (set_card costing point left * set_card costing point (set - left)))
    (set_card costing point set)
own_cost costing point (root.IndexLoop edge left relation) set =
    index_loop_work (index_stats (stats_at costing point) relation (column_on (edge_at costing.block.edges edge) relation)).height
    (set_card costing point left)
    (candidate_card costing edge point (set_card costing point left * (relation_stats (stats_at costing point) relation).rows))
    (set_card costing point set)

-- the cost of a plan, by the own costs of its nodes
abbrev pub sum_of : OwnCost → PlanTree → ℕ
sum_of own (Scan relation) = own (root.Scan relation) (covers_of (Scan relation))
sum_of own (IndexScan relation column) = own (root.IndexScan relation column) (covers_of (IndexScan relation column))
sum_of own (Nest left right) = sum_of own left + sum_of own right + own (root.Nest (covers_of left)) (covers_of (Nest left right))
sum_of own (Hash edge left right) =
    sum_of own left + sum_of own right + own (root.Hash edge (covers_of left)) (covers_of (Hash edge left right))
sum_of own (Merge edge left right) =
    sum_of own left + sum_of own right + own (root.Merge edge (covers_of left)) (covers_of (Merge edge left right))
sum_of own (IndexLoop edge left relation) =
    sum_of own left + own (root.IndexLoop edge (covers_of left) relation) (covers_of (IndexLoop edge left relation))

abbrev pub own_at : Pricing → OwnCost
own_at at = own_cost (costing_tree at.costing) at.point

abbrev pub block_at : Pricing → BlockTree
block_at at = block_tree at.costing.block

abbrev pub card_at : Pricing → (set : ℕ) → ℕ
card_at at set = set_card (costing_tree at.costing) at.point set

-- what a node costs by itself, and that is far from the end of 128 bits
pub record IsPrice (at : Pricing) (node : Root) (set price : ℕ) : Type 0 where
  pub own : price ≡ own_at at node set
  pub bound : price ≤ 2 ^ 108

-- a set of the block's relations
abbrev pub IsSetOf : BlockTree → (set : ℕ) → Type 0
IsSetOf block set = set < 2 ^ length block.relations

-- a set of the block's relations, and the left one of two sides of it
pub record IsSplitOf (block : BlockTree) (left set : ℕ) : Type 0 where
  pub split : IsSplit left set
  pub of_block : IsSetOf block set

-- of so many pairs of rows of the two sides of a set the columns of an edge are taken to be equal
pub record IsCandidateCount (at : Pricing) (edge left set candidates : ℕ) : Type 0 where
  pub pairs : candidates ≡ candidate_card (costing_tree at.costing) edge at.point (card_at at left * card_at at (set - left))
  pub few : candidates ≤ max_product

-- the cards of all sets
abbrev pub AreCards : Pricing → (cards : List ℕ) → Type 0
AreCards at cards = (set : ℕ) → IsSetOf (block_at at) set → slice_index cards set ≡ set_card (costing_tree at.costing) at.point set

-- at a point of a costing's grid the cards are kept
pub record ArePrices (at : Pricing) (cards : List ℕ) : Type 0 where
  pub is_costing : IsCosting (costing_tree at.costing)
  pub of_grid : IsPoint at.costing.grid at.point
  pub are_cards : AreCards at cards
