-- How far the cards of all sets are worked out.
use Rattle.std.specs.Prelude.{◌≡◌, ℕ, ◌+◌, ◌*◌, ◌<◌, ◌≤◌, List, drop, slice_index}
use Rattle.ess_grid.specs.Levels.{selectivity_bits}
use Rattle.plan_tree.specs.Sets.{set_of}
use Rattle.cost_model.specs.Costing.{costing_tree}
use Rattle.cost_model.specs.AtPoint.{stats_at}
use Rattle.cost_model.specs.Cards.{kept_product}
use Rattle.cost_model.specs.Rounding.{halvings_inside}
use Rattle.cost_model.specs.Pricing.{Pricing}
use Rattle.cost_model.specs.Prices.{block_at}

-- the products of the filtered counts of the sets that are numbers below the end
abbrev pub AreProducts : Pricing → (products : List ℕ) → (end : ℕ) → Type 0
AreProducts at products end =
    (set : ℕ) → set < end → slice_index products set ≡ kept_product (set_of set) 0 (stats_at (costing_tree at.costing) at.point).relations

-- a set is halved so often for the edges before this one
pub record IsHalved (at : Pricing) (set edge number : ℕ) : Type 0 where
  pub all : number + halvings_inside at.costing.grid at.point (set_of set) edge (drop edge (block_at at).edges)
      ≡ halvings_inside at.costing.grid at.point (set_of set) 0 (block_at at).edges
  pub few : number ≤ selectivity_bits * edge

-- so for all sets of the table
abbrev pub AreHalvings : Pricing → (halvings : List ℕ) → (edge : ℕ) → Type 0
AreHalvings at halvings edge = (set : ℕ) → set < 64 → IsHalved at set edge (slice_index halvings set)
