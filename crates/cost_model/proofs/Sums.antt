-- The cost of a plan is the sum of what its nodes cost by themselves.
use Rattle.std.proofs.Common.{◌≡◌, ℕ, ◌+◌, ◌-◌, ◌*◌, ◌^◌, ◌<◌, List, bit_or, sym, ap, ◌∙◌, arith}
use Rattle.plan_tree.specs.Plans.{PlanTree, Scan, IndexScan, Nest, Hash, Merge, IndexLoop, has_leaf, covers_of}
use Rattle.plan_tree.specs.Enumerated.{AreApart, edge_at, column_on, IsSubPlan}
use Rattle.plan_tree.specs.Work.{nest_work, hash_work, merge_work, index_loop_work}
use Rattle.cost_model.specs.Costing.{CostingTree, IsCosting}
use Rattle.plan_tree.specs.Sets.{set_of}
use Rattle.cost_model.specs.AtPoint.{stats_at}
use Rattle.cost_model.specs.Cards.{card_of}
use Rattle.cost_model.specs.Costs.{relation_stats, index_stats, scan_cost, index_scan_cost, candidate_card, cost_of}
use Rattle.cost_model.proofs.Cards.{card-of-set}
use Rattle.cost_model.proofs.Bounds.{cost-below}
use Rattle.cost_model.specs.Prices.{set_card, own_cost, sum_of}
use Rattle.plan_tree.proofs.Bits.{leaf-is-bit, apart-sets, sum-of-sides}

out-card : (costing : CostingTree) (point : List ℕ) (p : PlanTree) → card_of costing (has_leaf p) point ≡ set_card costing point (covers_of p)
out-card costing point p = card-of-set costing (has_leaf p) (set_of (covers_of p)) point (leaf-is-bit p)

right-card : (costing : CostingTree) (point : List ℕ) (l r : PlanTree) → AreApart l r
    → card_of costing (has_leaf r) point ≡ set_card costing point (bit_or (covers_of l) (covers_of r) - covers_of l)
right-card costing point l r apart =
    out-card costing point r ∙ ap (set_card costing point) (sym (sum-of-sides (covers_of l) (covers_of r) (apart-sets l r apart)))

pub costs-are-sums : (costing : CostingTree) (point : List ℕ) (p : PlanTree) → IsSubPlan costing.block p → cost_of costing p point ≡ sum_of (own_cost costing point) p
unfolding own_cost
costs-are-sums costing point (Scan r) is = ap (scan_cost (relation_stats (stats_at costing point) r)) (out-card costing point (Scan r))
costs-are-sums costing point (IndexScan r c) is = ap (index_scan_cost (index_stats (stats_at costing point) r c)) (out-card costing point (IndexScan r c))
costs-are-sums costing point (Nest l r) (left, right, apart) =
    let a = costs-are-sums costing point l left in
    let b = costs-are-sums costing point r right in
    let c = out-card costing point l in
    let d = right-card costing point l r apart in
    let e = out-card costing point (Nest l r) in
    λ i. a i + b i + nest_work (c i) (d i) (e i)
costs-are-sums costing point (Hash n l r) (left, right, apart, cross) =
    let a = costs-are-sums costing point l left in
    let b = costs-are-sums costing point r right in
    let c = out-card costing point l in
    let d = right-card costing point l r apart in
    let e = out-card costing point (Hash n l r) in
    λ i. a i + b i + hash_work (c i) (d i) (candidate_card costing n point (c i * d i)) (e i)
costs-are-sums costing point (Merge n l r) (left, right, apart, cross) =
    let a = costs-are-sums costing point l left in
    let b = costs-are-sums costing point r right in
    let c = out-card costing point l in
    let d = right-card costing point l r apart in
    let e = out-card costing point (Merge n l r) in
    λ i. a i + b i + merge_work (c i) (d i) (candidate_card costing n point (c i * d i)) (e i)
costs-are-sums costing point (IndexLoop n l r) (left, look) =
    let a = costs-are-sums costing point l left in
    let c = out-card costing point l in
    let e = out-card costing point (IndexLoop n l r) in
    λ i. a i + index_loop_work (index_stats (stats_at costing point) r (column_on (edge_at costing.block.edges n) r)).height (c i)
    (candidate_card costing n point (c i * (relation_stats (stats_at costing point) r).rows)) (e i)

pub sum-below : (costing : CostingTree) (point : List ℕ) (p : PlanTree) → IsCosting costing → IsSubPlan costing.block p → sum_of (own_cost costing point) p < 2 ^ 113
sum-below costing point p is plan = omega (arith, costs-are-sums costing point p plan, cost-below costing p point is plan)
