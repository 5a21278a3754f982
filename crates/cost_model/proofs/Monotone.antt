-- Costs grow with selectivity.
use Rattle.std.proofs.Common.{ℕ, ◌*◌, ◌≤◌, List, [], ◌∷◌, map, arith}
use Rattle.std.proofs.lemmas.Nat.{mul-le}
use Rattle.ess_grid.specs.Order.{PointBelow}
use Rattle.plan_tree.specs.Plans.{PlanTree, Scan, IndexScan, Nest, Hash, Merge, IndexLoop, has_leaf}
use Rattle.plan_tree.specs.Enumerated.{column_on, edge_at}
use Rattle.cost_model.specs.Costing.{CostingTree}
use Rattle.cost_model.specs.AtPoint.{stats_at}
use Rattle.cost_model.specs.Cards.{card_of}
use Rattle.cost_model.specs.Costs.{relation_stats, index_stats, cost_of}
use Rattle.plan_tree.specs.AllPlans.{plans_of}
use Rattle.cost_model.specs.Optimal.{least_of, optimal_cost}
use Rattle.plan_tree.proofs.Digits.{sort-le}
use Rattle.cost_model.proofs.AtPoint.{rows-at, pages-at, height-at, matches-le}
use Rattle.cost_model.proofs.Cards.{card-le, candidates-le}

pub out-le : (costing : CostingTree) (p : PlanTree) (point other : List ℕ) → PointBelow point other → card_of costing (has_leaf p) point ≤ card_of costing (has_leaf p) other
out-le costing p point other below = card-le costing (has_leaf p) point other below

pairs-le : (costing : CostingTree) (left right : PlanTree) (point other : List ℕ) → PointBelow point other
    → card_of costing (has_leaf left) point * card_of costing (has_leaf right) point ≤ card_of costing (has_leaf left) other * card_of costing (has_leaf right) other
pairs-le costing left right point other below = mul-le _ _ _ _ (out-le costing left point other below) (out-le costing right point other below)

pub cost-le : (costing : CostingTree) (p : PlanTree) (point other : List ℕ) → PointBelow point other → cost_of costing p point ≤ cost_of costing p other
cost-le costing (Scan relation) point other below =
    omega (
      arith,
      rows-at costing point relation,
      rows-at costing other relation,
      pages-at costing point relation,
      pages-at costing other relation,
      out-le costing (Scan relation) point other below,
    )
cost-le costing (IndexScan relation column) point other below =
    omega (
      arith,
      height-at costing point relation column,
      height-at costing other relation column,
      matches-le costing point other below relation column,
      out-le costing (IndexScan relation column) point other below,
    )
cost-le costing (Nest left right) point other below =
    omega (
      arith,
      cost-le costing left point other below,
      cost-le costing right point other below,
      out-le costing right point other below,
      pairs-le costing left right point other below,
      out-le costing (Nest left right) point other below,
    )
cost-le costing (Hash edge left right) point other below =
    let pairs = pairs-le costing left right point other below in
    omega (
      arith,
      cost-le costing left point other below,
      cost-le costing right point other below,
      out-le costing left point other below,
      out-le costing right point other below,
      candidates-le costing.grid point other edge _ _ below pairs,
      out-le costing (Hash edge left right) point other below,
    )
cost-le costing (Merge edge left right) point other below =
    let pairs = pairs-le costing left right point other below in
    let l = out-le costing left point other below in
    let r = out-le costing right point other below in
    omega (
      arith,
      cost-le costing left point other below,
      cost-le costing right point other below,
      l,
      r,
      sort-le _ _ l,
      sort-le _ _ r,
      candidates-le costing.grid point other edge _ _ below pairs,
      out-le costing (Merge edge left right) point other below,
    )
cost-le costing (IndexLoop edge left relation) point other below =
    let l = out-le costing left point other below in
    let column = column_on (edge_at costing.block.edges edge) relation in
    let rows : (relation_stats (stats_at costing point) relation).rows ≤ (relation_stats (stats_at costing other) relation).rows =
    omega (arith, rows-at costing point relation, rows-at costing other relation) in
    let height : 2 * (index_stats (stats_at costing point) relation column).height ≤ 2 * (index_stats (stats_at costing other) relation column).height =
    omega (arith, height-at costing point relation column, height-at costing other relation column) in
    let pairs = mul-le _ _ _ _ l rows in
    omega (
      arith,
      cost-le costing left point other below,
      mul-le _ _ _ _ height l,
      candidates-le costing.grid point other edge _ _ below pairs,
      out-le costing (IndexLoop edge left relation) point other below,
    )

-- the least of numbers of which each is at most another one
least-le : (plans : List PlanTree) (f g : PlanTree → ℕ) → ((p : PlanTree) → f p ≤ g p) → least_of (map f plans) ≤ least_of (map g plans)
least-le [] f g le = omega arith
least-le (p ∷ []) f g le = le p
least-le (p ∷ q ∷ more) f g le = omega (arith, le p, least-le (q ∷ more) f g le)

pub optimal-le : (costing : CostingTree) (point other : List ℕ) → PointBelow point other → optimal_cost costing point ≤ optimal_cost costing other
optimal-le costing point other below =
    least-le (plans_of costing.block) (λ p. cost_of costing p point) (λ p. cost_of costing p other) (λ p. cost-le costing p point other below)
