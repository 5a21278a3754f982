-- A table of least entries has a plan that follows it, so the entry of all relations has the optimal cost.
use Rattle.std.proofs.Common.{◌≡◌, ℕ, zero, suc, ◌-◌, ◌^◌, ◌<◌, ◌≤◌, List, length, refl, sym, ap, subst, ◌∙◌, arith}
use Rattle.query_block.specs.Blocks.{BlockTree}
use Rattle.plan_tree.specs.Plans.{PlanTree, Scan, IndexScan, Nest, Hash, Merge, IndexLoop, covers_of}
use Rattle.cost_model.specs.Costing.{costing_tree, IsCosting}
use Rattle.cost_model.specs.Optimal.{optimal_cost}
use Rattle.cost_model.proofs.Bounds.{cost-below}
use Rattle.cost_model.proofs.Least.{optimal-cheapest}
use Rattle.plan_tree.specs.declared.roots.Root.{Root}
use Rattle.plan_tree.specs.declared.roots.Root.TheVariants as root
use Rattle.plan_space.specs.declared.entry.Entry.{Entry}
use Rattle.plan_tree.specs.Roots.{Stands, IsSplit}
use Rattle.plan_space.specs.Table.{entry_at, AreLeast, Follows}
use Rattle.cost_model.specs.Prices.{OwnCost, own_at, block_at}
use Rattle.cost_model.specs.Pricing.{Pricing}
use Rattle.plan_space.proofs.Exchange.{built, two-at-least}
use Rattle.plan_space.proofs.Filled.{is-best}

module _ (own : OwnCost) (block : BlockTree) (table : List Entry) (least : AreLeast own block table (2 ^ length block.relations)) where
  abbrev Followed : (set : ℕ) → Type 0
  Followed set = (p : PlanTree) × Follows table p set

  abbrev FollowedBelow : (set : ℕ) → Type 0
  FollowedBelow set = (side : ℕ) → 1 ≤ side → side < set → Followed side

  covers : (set : ℕ) (p : PlanTree) → 1 ≤ set → set < 2 ^ length block.relations → Follows table p set → covers_of p ≡ set
  covers set p some below follows = (built own block table least p set some below follows).0

  -- plans of both sides, by the left one's set
  both : (left set : ℕ) → set < 2 ^ length block.relations → FollowedBelow set → IsSplit left set
      → (l : PlanTree) × ((r : PlanTree) × ((left ≡ covers_of l) × Follows table l (covers_of l) × Follows table r (set - covers_of l)))
  both left set below smaller split =
      let a = smaller left split.some split.less in
      let b = smaller (set - left) (omega (arith, split.less)) (omega (arith, split.some, split.less)) in
      let whole = sym (covers left a.0 split.some (omega (arith, split.less, below)) a.1) in
      (a.0, (b.0, (whole, subst (Follows table a.0) whole a.1, subst (λ side. Follows table b.0 (set - side)) whole b.1)))

  with-root : (set : ℕ) → set < 2 ^ length block.relations → FollowedBelow set → (node : Root) → (entry_at table set).root ≡ node → Stands block node set → Followed set
  with-root set below smaller (root.Scan r) is stands = (Scan r, is)
  with-root set below smaller (root.IndexScan r c) is stands = (IndexScan r c, is)
  with-root set below smaller (root.Nest l) is split =
      let two = both l set below smaller split in
      let sides = two.1.1 in
      (Nest two.0 two.1.0, (is ∙ ap root.Nest sides.0, sides.1, sides.2))
  with-root set below smaller (root.Hash n l) is (split, cross) =
      let two = both l set below smaller split in
      let sides = two.1.1 in
      (Hash n two.0 two.1.0, (is ∙ ap (λ left. root.Hash n left) sides.0, sides.1, sides.2))
  with-root set below smaller (root.Merge n l) is (split, cross) =
      let two = both l set below smaller split in
      let sides = two.1.1 in
      (Merge n two.0 two.1.0, (is ∙ ap (λ left. root.Merge n left) sides.0, sides.1, sides.2))
  with-root set below smaller (root.IndexLoop n l r) is (split, cross, found) =
      let two = both l set below smaller split in
      let sides = two.1.1 in
      (IndexLoop n two.0 r, (is ∙ ap (λ left. root.IndexLoop n left r) sides.0, sides.1))

  followed-to : (fuel set : ℕ) → set ≤ fuel → 1 ≤ set → set < 2 ^ length block.relations → Followed set
  followed-to zero set le some below = absurd (omega (arith, le, some))
  followed-to (suc fuel) set le some below =
      with-root set below (λ side one less. followed-to fuel side (omega (arith, le, less)) one (omega (arith, less, below)))
      (entry_at table set).root refl (least set some below).kept.stands

  pub followed-by : (set : ℕ) → 1 ≤ set → set < 2 ^ length block.relations → Followed set
  followed-by set some below = followed-to set set (omega arith) some below

-- the entry of all relations costs the optimal cost
pub entry-optimal : (at : Pricing) (table : List Entry) (all : ℕ) → IsCosting (costing_tree at.costing)
    → AreLeast (own_at at) (block_at at) table (2 ^ length (block_at at).relations) → all ≡ 2 ^ length (block_at at).relations - 1
    → ((entry_at table all).cost ≡ optimal_cost (costing_tree at.costing) at.point) × (optimal_cost (costing_tree at.costing) at.point < 2 ^ 113)
entry-optimal at table all is least whole =
    let costing = costing_tree at.costing in
    let two : 2 ≤ 2 ^ length (block_at at).relations = two-at-least (length (block_at at).relations) is.block.some in
    let found = followed-by (own_at at) (block_at at) table least all (omega (arith, whole, two)) (omega (arith, whole, two)) in
    let best = is-best at table found.0 all is least whole found.1 in (
      best.1,
      omega (arith, cost-below costing found.0 at.point is best.0.cheapest.plan.nodes, optimal-cheapest costing found.0 at.point best.0.cheapest),
    )
