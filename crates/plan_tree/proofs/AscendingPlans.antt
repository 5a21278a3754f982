-- All plans of a block are listed in plan order: by their outermost nodes, then by the left plan, then by the right one.
use Rattle.std.proofs.Common.{◌≡◌, ℕ, zero, suc, ◌-◌, ◌^◌, ◌<◌, List, length, map, refl, sym, ap, ap₂, subst, ◌∙◌, arith}
use Rattle.std.proofs.lemmas.Grind.{common_steps}
use Rattle.std.specs.List.{flat_map, AllPairs}
use Rattle.std.specs.Ordering.{nat_cmp, ordering_then}
use Rattle.std.specs.Cmp.{tied_itself}
use Rattle.std.specs.Cmp.Lexicographic.{slice_cmp}
use Rattle.std.specs.declared.cmp.Ordering.{Ordering}
use Rattle.std.specs.declared.cmp.Ordering.TheVariants.{Less}
use Rattle.std.proofs.lemmas.Cmp.{nat_list_cmp_total}
use Rattle.query_block.specs.Blocks.{BlockTree}
use Rattle.plan_tree.specs.declared.roots.Root.{Root}
use Rattle.plan_tree.specs.declared.roots.Root.TheVariants as root
use Rattle.plan_tree.specs.Plans.{PlanTree, Nest, Hash, Merge, IndexLoop, covers_of}
use Rattle.plan_tree.specs.Order.{plan_order_of}
use Rattle.plan_tree.specs.Sides.{side_order}
use Rattle.plan_tree.specs.Roots.{root_of, IsSplit, Stands}
use Rattle.plan_tree.specs.AllPlans.{roots_of, pairs_by, trees_of, plans_at, plans_below, plans_of}
use Rattle.plan_tree.proofs.Members.{IsIn, of-map}
use Rattle.plan_tree.proofs.PlanOrder.{total, by-nodes}
use Rattle.plan_tree.proofs.Outermost.{numbers-of}
use Rattle.plan_tree.proofs.Ascending.{Ascends, between, ascending-pairs, ascending-flat, ascending-map}
use Rattle.plan_tree.proofs.RootLists.{of-roots}
use Rattle.plan_tree.proofs.AscendingRoots.{IsEarlier, roots-ascend}
use Rattle.plan_tree.proofs.Enumerated.{plans_for, looked-up, SidesAreOf, right-less, of-over, sides-of-set, last-list}

abbrev IsBefore : PlanTree → PlanTree → Type 0
IsBefore a b = plan_order_of a b ≡ Less

-- ---- what decides

by-outermost : (a b : PlanTree) → IsEarlier (root_of a) (root_of b) → IsBefore a b
by-outermost a b earlier =
    by-nodes a b ∙ ap (λ o. ordering_then o (side_order a b)) (ap₂ (slice_cmp nat_cmp) (numbers-of a) (numbers-of b) ∙ earlier)

by-sides : (a b : PlanTree) → root_of a ≡ root_of b → side_order a b ≡ Less → IsBefore a b
by-sides a b same less = grind (arith, common_steps, nat_list_cmp_total, by-nodes, numbers-of)

left-less : (l l' : PlanTree) (right : Ordering) → IsBefore l l' → ordering_then (plan_order_of l l') right ≡ Less
left-less l l' right less = ap (λ o. ordering_then o right) less

right-decides : (l : PlanTree) (right : Ordering) → right ≡ Less → ordering_then (plan_order_of l l) right ≡ Less
right-decides l right less = ap (λ o. ordering_then o right) (tied_itself total l) ∙ less

-- two joins of one kind, with left sides of one set, are in the order of their sides
abbrev SidesDecide : (PlanTree → PlanTree → PlanTree) → Type 0
SidesDecide join = (l l' r r' : PlanTree) → covers_of l ≡ covers_of l'
    → ordering_then (plan_order_of l l') (plan_order_of r r') ≡ Less → IsBefore (join l r) (join l' r')

nests : SidesDecide Nest
nests l l' r r' same less = by-sides (Nest l r) (Nest l' r') (ap (λ left. root.Nest left) same) less

hashes : (edge : ℕ) → SidesDecide (Hash edge)
hashes edge l l' r r' same less = by-sides (Hash edge l r) (Hash edge l' r') (ap (λ left. root.Hash edge left) same) less

merges : (edge : ℕ) → SidesDecide (Merge edge)
merges edge l l' r r' same less = by-sides (Merge edge l r) (Merge edge l' r') (ap (λ left. root.Merge edge left) same) less

-- ---- the plans with one outermost node

pairs-ascend : (join : PlanTree → PlanTree → PlanTree) → SidesDecide join → (lefts rights : List PlanTree)
    → ((p q : PlanTree) → IsIn p lefts → IsIn q lefts → covers_of p ≡ covers_of q) → Ascends IsBefore lefts → Ascends IsBefore rights
    → Ascends IsBefore (pairs_by join lefts rights)
pairs-ascend join decide lefts rights one_set left right =
    ascending-flat IsBefore IsBefore (λ l. map (join l) rights) lefts left
    (λ l is. ascending-map IsBefore IsBefore (join l) rights right
    (λ r r' here there less. decide l l r r' refl (right-decides l (plan_order_of r r') less)))
    (λ l l' here there less p q in_p in_q.
    let one = of-map (join l) p rights in_p in
    let other = of-map (join l') q rights in_q in
    between IsBefore (join l one.0) (join l' other.0) one.2 other.2
    (decide l l' one.0 other.0 (one_set l l' here there) (left-less l l' (plan_order_of one.0 other.0) less)))

abbrev SidesAscend : (set : ℕ) → (plans : ℕ → List PlanTree) → Type 0
SidesAscend set plans = (side : ℕ) → side < set → Ascends IsBefore (plans side)

module _ (block : BlockTree) (plans : ℕ → List PlanTree) (set : ℕ) (sides : SidesAreOf block set plans) (ascend : SidesAscend set plans) where
  one-set : (side : ℕ) → side < set → (p q : PlanTree) → IsIn p (plans side) → IsIn q (plans side) → covers_of p ≡ covers_of q
  one-set side less p q here there = (sides side less p here).1 ∙ sym (sides side less q there).1

  joins-ascend : (join : PlanTree → PlanTree → PlanTree) → SidesDecide join → (left : ℕ) → IsSplit left set
      → Ascends IsBefore (pairs_by join (plans left) (plans (set - left)))
  joins-ascend join decide left split =
      pairs-ascend join decide (plans left) (plans (set - left)) (one-set left split.less)
      (ascend left split.less) (ascend (set - left) (right-less left set split))

  tree-ascends : (node : Root) → Stands block node set → Ascends IsBefore (trees_of plans set node)
  tree-ascends (root.Scan relation) stands = (λ other none. absurd none, tt)
  tree-ascends (root.IndexScan relation column) stands = (λ other none. absurd none, tt)
  tree-ascends (root.Nest left) split = joins-ascend Nest nests left split
  tree-ascends (root.Hash edge left) (split, crossed) = joins-ascend (Hash edge) (hashes edge) left split
  tree-ascends (root.Merge edge left) (split, crossed) = joins-ascend (Merge edge) (merges edge) left split
  tree-ascends (root.IndexLoop edge left relation) (split, crossed, look) =
      ascending-map IsBefore IsBefore (λ l. IndexLoop edge l relation) (plans left) (ascend left split.less)
      (λ l l' here there less.
      by-sides (IndexLoop edge l relation) (IndexLoop edge l' relation)
      (ap (λ side. root.IndexLoop edge side relation) (one-set left split.less l l' here there))
      (left-less l l' (nat_cmp relation relation) less))

  over-ascends : Ascends IsBefore (flat_map (trees_of plans set) (roots_of block set))
  over-ascends =
      ascending-flat IsEarlier IsBefore (trees_of plans set) (roots_of block set) (roots-ascend block set)
      (λ node is. tree-ascends node (of-roots block set node is))
      (λ one other here there earlier p q in_p in_q.
      let of_one = of-over block plans set sides one p here in_p in
      let of_other = of-over block plans set sides other q there in_q in
      by-outermost p q (between IsEarlier one other (sym of_one.outermost) (sym of_other.outermost) earlier))

-- ---- the plans of a set, and all plans of a block

set-ascends : (block : BlockTree) (end set : ℕ) → set < end → Ascends IsBefore (plans_for block set)
set-ascends block zero set below = absurd (omega (arith, below))
set-ascends block (suc end) set below =
    over-ascends block (plans_at (plans_below block set)) set (sides-of-set block set) (λ side less.
    subst (Ascends IsBefore) (sym (looked-up block set side less)) (set-ascends block end side (omega (arith, less, below))))

pub plans-ascend : (block : BlockTree) → AllPairs IsBefore (plans_of block)
plans-ascend block =
    let last = 2 ^ length block.relations - 1 in
    ascending-pairs IsBefore (plans_of block)
    (subst (Ascends IsBefore) (sym (last-list block)) (set-ascends block (suc last) last (omega arith)))
