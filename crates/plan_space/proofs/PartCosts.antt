-- What a node and its sides cost is what their part costs.
use Rattle.std.proofs.Common.{[], ◌≡◌, ℕ, ◌+◌, ◌<◌, List, length, slice_index, sym, ap, ◌∙◌, subst, arith}
use Rattle.std.proofs.lemmas.List.{length-take-le}
use Rattle.query_block.specs.Shape.{BlockShape}
use Rattle.query_block.specs.Blocks.{BlockTree, block_tree}
use Rattle.plan_tree.specs.Plans.{PlanTree, Scan, IndexScan, Nest, Hash, Merge, IndexLoop, covers_of}
use Rattle.plan_tree.specs.Enumerated.{IsSubPlan}
use Rattle.plan_tree.specs.Roots.{root_of, Stands}
use Rattle.plan_tree.proofs.Outermost.{stands, covers-below}
use Rattle.cost_model.specs.Costing.{costing_tree}
use Rattle.cost_model.specs.Costs.{cost_of}
use Rattle.cost_model.specs.Pricing.{Pricing}
use Rattle.cost_model.specs.Prices.{IsSetOf, block_at, own_at, sum_of}
use Rattle.cost_model.proofs.Sums.{costs-are-sums}
use Rattle.plan_space.specs.declared.node.Node.{Node}
use Rattle.plan_space.specs.declared.part_sums.PartSum.{PartSum}
use Rattle.plan_space.specs.Parts.{PartsShape, nth_plan, plan_over, parts_behind, AreSidesBelow, node_at, AreNodes, ArePartCosts}
use Rattle.plan_space.specs.PartSums.{StandsAlone, AreSidesAt, IsSideBelow, IsPartSum, AreOwnCosts, HasCosts}
use Rattle.plan_space.proofs.PartNumbers.{parts-long, part-of}

-- what is known of the node of a number and of its part
pub record IsKnown (block : BlockTree) (parts : List PlanTree) (node : Node) (number : ℕ) : Type 0 where
  pub plan : IsSubPlan block (nth_plan parts number)
  pub outermost : node.root ≡ root_of (nth_plan parts number)
  pub covers : node.set ≡ covers_of (nth_plan parts number)
  pub part : nth_plan parts number ≡ plan_over parts node.root node.left node.right
  pub sides : AreSidesBelow node.root node.left node.right number

known : (block : BlockTree) (nodes : List Node) (number : ℕ) → AreNodes block nodes → number < length nodes
    → IsKnown block (parts_behind [] nodes) (node_at nodes number) number
known block nodes number all less =
    let is = all number less in
    let node = node_at nodes number in
    record {
      plan = subst (IsSubPlan block) (sym is.part) is.over.plan;
      outermost = is.over.outermost ∙ ap root_of (sym is.part);
      covers = is.over.covers ∙ ap covers_of (sym is.part);
      part = part-of block nodes number all less;
      sides = subst (AreSidesBelow node.root node.left node.right) (length-take-le number (parts_behind [] nodes) (omega (arith, less, parts-long nodes))) is.over.sides;
    }

-- as the fields of `Parts` have it
pub known-here : (shape : PartsShape) (block : BlockShape) (nodes : List Node) (number : ℕ) → (record { block = block; plans = parts_behind [] nodes }) ≡ shape
    → AreNodes (block_tree block) nodes → number < length shape.plans → IsKnown (block_tree shape.block) shape.plans (node_at nodes number) number
known-here shape block nodes number view all less =
    let few : number < length nodes = omega (arith, less, ap (λ (one : PartsShape). length one.plans) view, parts-long nodes) in
    subst (λ (one : PartsShape). IsKnown (block_tree one.block) one.plans (node_at nodes number) number) view (known (block_tree block) nodes number all few)

pub stands-alone : (block : BlockTree) (parts : List PlanTree) (node other : Node) (number : ℕ) → IsKnown block parts node number → other.root ≡ node.root → other.set ≡ node.set
    → StandsAlone block other
stands-alone block parts node other number is root set =
    let p = nth_plan parts number in
    record {
      stands = subst (λ one. Stands block one other.set) (sym (root ∙ is.outermost)) (subst (Stands block (root_of p)) (sym (set ∙ is.covers)) (stands block p is.plan));
      set = subst (IsSetOf block) (sym (set ∙ is.covers)) (covers-below block p is.plan);
    }

side-cost : (at : Pricing) (parts : List PlanTree) (costs : List ℕ) (side : PlanTree) (number end : ℕ) → ArePartCosts at parts costs end → IsSideBelow parts side number end
    → IsSubPlan (block_at at) side → slice_index costs number ≡ sum_of (own_at at) side
side-cost at parts costs side number end are is plan =
    are number is.below ∙ ap (λ one. cost_of (costing_tree at.costing) one at.point) is.is ∙ costs-are-sums (costing_tree at.costing) at.point side plan

-- a plan costs what its node costs by itself, and what its sides cost
sum-is : (at : Pricing) (parts : List PlanTree) (costs : List ℕ) (p : PlanTree) (left right end : ℕ) → ArePartCosts at parts costs end → slice_index costs (length parts) ≡ 0
    → AreSidesAt parts p left right end → IsSubPlan (block_at at) p
    → own_at at (root_of p) (covers_of p) + slice_index costs left + slice_index costs right ≡ sum_of (own_at at) p
sum-is at parts costs (Scan relation) left right end are none (l, r) is =
    omega (arith, ap (slice_index costs) l, ap (slice_index costs) r, none)
sum-is at parts costs (IndexScan relation column) left right end are none (l, r) is =
    omega (arith, ap (slice_index costs) l, ap (slice_index costs) r, none)
sum-is at parts costs (Nest a b) left right end are none (l, r) is =
    omega (arith, side-cost at parts costs a left end are l is.0, side-cost at parts costs b right end are r is.1)
sum-is at parts costs (Hash edge a b) left right end are none (l, r) is =
    omega (arith, side-cost at parts costs a left end are l is.0, side-cost at parts costs b right end are r is.1)
sum-is at parts costs (Merge edge a b) left right end are none (l, r) is =
    omega (arith, side-cost at parts costs a left end are l is.0, side-cost at parts costs b right end are r is.1)
sum-is at parts costs (IndexLoop edge a relation) left right end are none (l, r) is =
    omega (arith, side-cost at parts costs a left end are l is.0, ap (slice_index costs) r, none)

pub part-cost-is : (at : Pricing) (parts : List PlanTree) (nodes : List Node) (own_costs costs : List ℕ) (sum : PartSum) (number : ℕ) → IsSubPlan (block_at at) (nth_plan parts number)
    → IsPartSum parts nodes sum number → AreOwnCosts at nodes own_costs (length nodes) → HasCosts parts costs → ArePartCosts at parts costs number
    → slice_index own_costs sum.node + slice_index costs sum.left + slice_index costs sum.right ≡ cost_of (costing_tree at.costing) (nth_plan parts number) at.point
part-cost-is at parts nodes own_costs costs sum number plan is owns has are =
    let p = nth_plan parts number in
    let own : slice_index own_costs sum.node ≡ own_at at (root_of p) (covers_of p) =
    (owns sum.node is.node.exists).own ∙ (λ i. own_at at (is.node.root i) (is.node.set i)) in
    ap (λ one. one + slice_index costs sum.left + slice_index costs sum.right) own
    ∙ sum-is at parts costs p sum.left sum.right number are has.none is.sides plan
    ∙ sym (costs-are-sums (costing_tree at.costing) at.point p plan)
