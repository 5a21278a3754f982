-- Where the entries of all sets are least, the plan that follows them is a best plan. Nothing is exchanged inside a plan:
-- by induction on any other plan, the entry of its set costs no more, and at equal cost the plan that follows is not later.
use Rattle.std.proofs.Common.{◌≡◌, ℕ, ◌+◌, ◌-◌, ◌^◌, ◌<◌, ◌≤◌, false, List, length, bit_and, bit_or, refl, sym, ap, ap₂, subst, ◌∙◌, arith}
use Rattle.std.specs.Ordering.{nat_cmp, ordering_then, is_gt}
use Rattle.std.specs.Cmp.Lexicographic.{slice_cmp}
use Rattle.std.proofs.lemmas.Cmp.{ranked}
use Rattle.std.specs.declared.cmp.Ordering.{Ordering}
use Rattle.std.specs.declared.cmp.Ordering.TheVariants.{Less, Equal, Greater}
use Rattle.query_block.specs.Blocks.{BlockTree}
use Rattle.plan_tree.specs.Plans.{PlanTree, Scan, IndexScan, Nest, Hash, Merge, IndexLoop, covers_of}
use Rattle.plan_tree.specs.Enumerated.{edge_at, AreApart, Crosses, IsSubPlan, IsPlan}
use Rattle.plan_tree.specs.Sets.{set_of, is_between}
use Rattle.plan_tree.specs.Order.{node_numbers, plan_order_of}
use Rattle.plan_tree.specs.Sides.{side_order}
use Rattle.plan_tree.proofs.PlanOrder.{by-nodes}
use Rattle.plan_tree.specs.declared.roots.Root.{Root}
use Rattle.plan_tree.specs.declared.roots.Root.TheVariants as root
use Rattle.plan_space.specs.declared.entry.Entry.{Entry}
use Rattle.plan_tree.specs.Roots.{root_of, root_numbers, IsSplit, IsCrossed, Stands}
use Rattle.plan_space.specs.Table.{entry_at, side_costs, offered, NotLater, IsLeast, AreLeast, Follows}
use Rattle.cost_model.specs.Prices.{OwnCost, sum_of}
use Rattle.plan_tree.proofs.Outermost.{numbers-of, split, stands, covers-below}
use Rattle.plan_tree.proofs.Bits.{crosses-sets, covers-some, apart-sets, sets-apart, apart-relation, relation-apart, sum-of-sides, whole-of, same-relation, power-below, covers-all, all-covered}

-- ---- entries that are not later

cost-first : (a b : ℕ) (more : Ordering) (o : Ordering) → o ≡ nat_cmp a b → is_gt (ordering_then o more) ≡ false → a ≤ b
cost-first a b more Less is e = let lt : a < b = ranked a b Less is in omega arith
cost-first a b more Equal is e = let eq : a ≡ b = ranked a b Equal is in omega arith
cost-first a b more Greater is e = cc

pub costs-no-more : (entry other : Entry) → NotLater entry other → entry.cost ≤ other.cost
costs-no-more entry other not-later = cost-first entry.cost other.cost (slice_cmp nat_cmp (root_numbers entry.root) (root_numbers other.root)) _ refl not-later

then-more : (a b : ℕ) (more o : Ordering) → o ≡ nat_cmp a b → a ≡ b → is_gt (ordering_then o more) ≡ false → is_gt more ≡ false
then-more a b more Less is e h = let lt : a < b = ranked a b Less is in absurd (omega (arith, lt, e))
then-more a b more Equal is e h = h
then-more a b more Greater is e h = cc

pub nodes-decide : (entry other : Entry) → NotLater entry other → entry.cost ≡ other.cost → is_gt (slice_cmp nat_cmp (root_numbers entry.root) (root_numbers other.root)) ≡ false
nodes-decide entry other not-later same = then-more entry.cost other.cost _ _ refl same not-later

not-both : (a b : Ordering) → is_gt a ≡ false → (a ≡ Equal → is_gt b ≡ false) → is_gt (ordering_then a b) ≡ false
not-both Less b first second = refl
not-both Equal b first second = second refl
not-both Greater b first second = first

number : (a b : ℕ) → ordering_then (nat_cmp a b) Equal ≡ Equal → a ≡ b
number a b e = by (nat_cmp a b) refl e
  where
    by : (o : Ordering) → o ≡ nat_cmp a b → ordering_then o Equal ≡ Equal → a ≡ b
    by Less is e = cc
    by Equal is e = ranked a b Equal is
    by Greater is e = cc

after : (a b : Ordering) → ordering_then a b ≡ Equal → b ≡ Equal
after Less b e = cc
after Equal b e = e
after Greater b e = cc

same-number : (a b : ℕ) → a ≡ b → is_gt (nat_cmp a b) ≡ false
same-number a b e = by (nat_cmp a b) refl
  where
    by : (o : Ordering) → o ≡ nat_cmp a b → is_gt o ≡ false
    by Less is = refl
    by Equal is = refl
    by Greater is = let gt : b < a = ranked a b Greater is in absurd (omega (arith, gt, e))

pub two-at-least : (n : ℕ) → 1 ≤ n → 2 ≤ 2 ^ n
two-at-least n some = let more = power-below 0 n (omega arith) in omega (arith, more)

-- ---- the theorem

module _ (own : OwnCost) (block : BlockTree) (table : List Entry) (least : AreLeast own block table (2 ^ length block.relations)) where
  entry-of : (p : PlanTree) → IsSubPlan block p → IsLeast own block table (covers_of p) (entry_at table (covers_of p))
  entry-of p is = least (covers_of p) (covers-some p) (covers-below block p is)

  entry-costs : (p : PlanTree) → IsSubPlan block p → (entry_at table (covers_of p)).cost ≤ side_costs table (root_of p) (covers_of p) + own (root_of p) (covers_of p)
  entry-costs p is =
      costs-no-more (entry_at table (covers_of p)) (offered own table (root_of p) (covers_of p)) ((entry-of p is).least (root_of p) (stands block p is))

  right-entry : (l r : PlanTree) → AreApart l r → (entry_at table (bit_or (covers_of l) (covers_of r) - covers_of l)).cost ≡ (entry_at table (covers_of r)).cost
  right-entry l r apart = ap (λ set. (entry_at table set).cost) (sum-of-sides (covers_of l) (covers_of r) (apart-sets l r apart))

  -- the entries of a plan's sides cost no more than the sides
  sides-cost : (p : PlanTree) → IsSubPlan block p → side_costs table (root_of p) (covers_of p) + own (root_of p) (covers_of p) ≤ sum_of own p
  sides-cost (Scan r) is = omega arith
  sides-cost (IndexScan r c) is = omega arith
  sides-cost (Nest l r) (left, right, apart) = omega (arith, right-entry l r apart, entry-costs l left, entry-costs r right, sides-cost l left, sides-cost r right)
  sides-cost (Hash e l r) (left, right, apart, cross) = omega (arith, right-entry l r apart, entry-costs l left, entry-costs r right, sides-cost l left, sides-cost r right)
  sides-cost (Merge e l r) (left, right, apart, cross) = omega (arith, right-entry l r apart, entry-costs l left, entry-costs r right, sides-cost l left, sides-cost r right)
  sides-cost (IndexLoop e l r) (left, look) = omega (arith, entry-costs l left, sides-cost l left)

  -- an entry costs no more than any plan of its set
  pub cheap : (p : PlanTree) → IsSubPlan block p → (entry_at table (covers_of p)).cost ≤ sum_of own p
  cheap p is = omega (arith, entry-costs p is, sides-cost p is)

  followed : (b : PlanTree) (set : ℕ) → Follows table b set → (entry_at table set).root ≡ root_of b
  followed (Scan r) set follows = follows
  followed (IndexScan r c) set follows = follows
  followed (Nest l r) set (e, left, right) = e
  followed (Hash n l r) set (e, left, right) = e
  followed (Merge n l r) set (e, left, right) = e
  followed (IndexLoop n l r) set (e, left) = e

  -- at equal cost the plan that follows the entries has an outermost node that isn't later, and then its sides decide
  pub by-node : (b p : PlanTree) → IsSubPlan block p → Follows table b (covers_of p) → sum_of own p ≡ (entry_at table (covers_of p)).cost
      → (slice_cmp nat_cmp (node_numbers b) (node_numbers p) ≡ Equal → is_gt (side_order b p) ≡ false) → is_gt (plan_order_of b p) ≡ false
  by-node b p is follows ties sides =
      let entry = entry_at table (covers_of p) in
      let other = offered own table (root_of p) (covers_of p) in
      let same : entry.cost ≡ other.cost = omega (arith, entry-costs p is, sides-cost p is, ties) in
      let decided = nodes-decide entry other ((entry-of p is).least (root_of p) (stands block p is)) same in
      let numbers : root_numbers entry.root ≡ node_numbers b = ap root_numbers (followed b (covers_of p) follows) ∙ sym (numbers-of b) in
      let first : is_gt (slice_cmp nat_cmp (node_numbers b) (node_numbers p)) ≡ false =
      sym (ap₂ (λ xs ys. is_gt (slice_cmp nat_cmp xs ys)) numbers (sym (numbers-of p))) ∙ decided in
      ap is_gt (by-nodes b p) ∙ not-both _ (side_order b p) first sides

  left-same : (l r : PlanTree) → AreApart l r → (side : ℕ) → side ≡ covers_of l → bit_or (covers_of l) (covers_of r) - side ≡ covers_of r
  left-same l r apart side same = ap (λ n. bit_or (covers_of l) (covers_of r) - n) same ∙ sum-of-sides (covers_of l) (covers_of r) (apart-sets l r apart)

  -- at equal cost no plan of its set is before the plan that follows the entries
  pub first : (p b : PlanTree) → IsSubPlan block p → Follows table b (covers_of p) → sum_of own p ≡ (entry_at table (covers_of p)).cost → is_gt (plan_order_of b p) ≡ false
  first (Scan r) (Scan r') is follows ties = by-node (Scan r') (Scan r) is follows ties (λ e. refl)
  first (IndexScan r c) (IndexScan r' c') is follows ties = by-node (IndexScan r' c') (IndexScan r c) is follows ties (λ e. refl)
  first (Nest l r) (Nest l' r') (left, right, apart) follows ties = by-node (Nest l' r') (Nest l r) (left, right, apart) follows ties (λ e.
      let same : covers_of l' ≡ covers_of l = number (covers_of l') (covers_of l) e in
      let costs : ((entry_at table (covers_of l)).cost ≡ sum_of own l) × ((entry_at table (covers_of r)).cost ≡ sum_of own r) = (
        omega (arith, right-entry l r apart, entry-costs (Nest l r) (left, right, apart), cheap l left, cheap r right, ties),
        omega (arith, right-entry l r apart, entry-costs (Nest l r) (left, right, apart), cheap l left, cheap r right, ties),
      ) in
      not-both (plan_order_of l' l) (plan_order_of r' r)
      (first l l' left (subst (Follows table l') same follows.1) (sym costs.0))
      (λ _. first r r' right (subst (Follows table r') (left-same l r apart (covers_of l') same) follows.2) (sym costs.1)))
  first (Hash n l r) (Hash n' l' r') (left, right, apart, cross) follows ties = by-node (Hash n' l' r') (Hash n l r) (left, right, apart, cross) follows ties (λ e.
      let same : covers_of l' ≡ covers_of l = number (covers_of l') (covers_of l) (after (nat_cmp n' n) _ e) in
      let costs : ((entry_at table (covers_of l)).cost ≡ sum_of own l) × ((entry_at table (covers_of r)).cost ≡ sum_of own r) = (
        omega (arith, right-entry l r apart, entry-costs (Hash n l r) (left, right, apart, cross), cheap l left, cheap r right, ties),
        omega (arith, right-entry l r apart, entry-costs (Hash n l r) (left, right, apart, cross), cheap l left, cheap r right, ties),
      ) in
      not-both (plan_order_of l' l) (plan_order_of r' r)
      (first l l' left (subst (Follows table l') same follows.1) (sym costs.0))
      (λ _. first r r' right (subst (Follows table r') (left-same l r apart (covers_of l') same) follows.2) (sym costs.1)))
  first (Merge n l r) (Merge n' l' r') (left, right, apart, cross) follows ties = by-node (Merge n' l' r') (Merge n l r) (left, right, apart, cross) follows ties (λ e.
      let same : covers_of l' ≡ covers_of l = number (covers_of l') (covers_of l) (after (nat_cmp n' n) _ e) in
      let costs : ((entry_at table (covers_of l)).cost ≡ sum_of own l) × ((entry_at table (covers_of r)).cost ≡ sum_of own r) = (
        omega (arith, right-entry l r apart, entry-costs (Merge n l r) (left, right, apart, cross), cheap l left, cheap r right, ties),
        omega (arith, right-entry l r apart, entry-costs (Merge n l r) (left, right, apart, cross), cheap l left, cheap r right, ties),
      ) in
      not-both (plan_order_of l' l) (plan_order_of r' r)
      (first l l' left (subst (Follows table l') same follows.1) (sym costs.0))
      (λ _. first r r' right (subst (Follows table r') (left-same l r apart (covers_of l') same) follows.2) (sym costs.1)))
  first (IndexLoop n l r) (IndexLoop n' l' r') (left, look) follows ties = by-node (IndexLoop n' l' r') (IndexLoop n l r) (left, look) follows ties (λ e.
      let same : covers_of l' ≡ covers_of l = number (covers_of l') (covers_of l) (after (nat_cmp n' n) _ e) in
      let set = covers_of (IndexLoop n l r) in
      let none = apart-relation l r look.apart in
      let cost : (entry_at table (covers_of l)).cost ≡ sum_of own l =
      omega (arith, entry-costs (IndexLoop n l r) (left, look), cheap l left, ties) in
      let kept = (entry-of (IndexLoop n l r) (left, look)).kept.stands in
      let right : set - covers_of l' ≡ 2 ^ r' = (subst (λ node. Stands block node set) follows.0 kept).2.one in
      let one : r' ≡ r = same-relation r' r (sym right ∙ ap (λ n. set - n) same ∙ sum-of-sides (covers_of l) (2 ^ r) none) in
      not-both (plan_order_of l' l) (nat_cmp r' r) (first l l' left (subst (Follows table l') same follows.1) (sym cost)) (λ _. same-number r' r one))
  first p b is follows ties = by-node b p is follows ties (λ e. cc)

  right-part : (left set : ℕ) → IsSplit left set → set < 2 ^ length block.relations → (1 ≤ set - left) × (set - left < 2 ^ length block.relations)
  right-part left set split below = (omega (arith, split.less), omega arith)

  abbrev Kept : Root → ℕ → Type 0
  Kept node set = Stands block node set × ((entry_at table set).cost ≡ side_costs table node set + own node set)

  kept-of : (b : PlanTree) (set : ℕ) → 1 ≤ set → set < 2 ^ length block.relations → Follows table b set → Kept (root_of b) set
  kept-of b set some below follows =
      let kept = (least set some below).kept in
      subst (λ node. Kept node set) (followed b set follows) (kept.stands, kept.cost)

  abbrev Built : PlanTree → ℕ → Type 0
  Built b set = (covers_of b ≡ set) × IsSubPlan block b × (sum_of own b ≡ (entry_at table set).cost)

  sides-apart : (l r : PlanTree) (set : ℕ) → IsSplit (covers_of l) set → covers_of r ≡ set - covers_of l → AreApart l r
  sides-apart l r set split right = sets-apart l r (ap (bit_and (covers_of l)) right ∙ split.apart)

  crosses-plans : (edge : ℕ) (l r : PlanTree) (set : ℕ) → covers_of r ≡ set - covers_of l → IsCrossed block.edges edge (covers_of l) (set - covers_of l) → Crosses block.edges edge l r
  crosses-plans edge l r set right cross =
      (cross.exists, crosses-sets (edge_at block.edges edge) l r ∙ ap (λ other. is_between (set_of (covers_of l)) (set_of other) (edge_at block.edges edge)) right ∙ cross.crosses)

  joined-cost : (left right set covers node : ℕ) (root : Root) → covers ≡ set → left + right + own root set ≡ node → left + right + own root covers ≡ node
  joined-cost left right set covers node root is e = ap (λ s. left + right + own root s) is ∙ e

  -- a plan that follows the entries is a plan of the set, at the cost of its entry
  pub built : (b : PlanTree) (set : ℕ) → 1 ≤ set → set < 2 ^ length block.relations → Follows table b set → Built b set
  built (Scan r) set some below follows =
      let kept = kept-of (Scan r) set some below follows in
      (sym kept.0.1, kept.0.0, ap (own (root.Scan r)) (sym kept.0.1) ∙ omega (arith, kept.1))
  built (IndexScan r c) set some below follows =
      let kept = kept-of (IndexScan r c) set some below follows in
      (sym kept.0.1, kept.0.0, ap (own (root.IndexScan r c)) (sym kept.0.1) ∙ omega (arith, kept.1))
  built (Nest l r) set some below follows =
      let kept = kept-of (Nest l r) set some below follows in
      let split = kept.0 in
      let part = right-part (covers_of l) set split below in
      let left = built l (covers_of l) split.some (omega (arith, split.less)) follows.1 in
      let right = built r (set - covers_of l) part.0 part.1 follows.2 in
      let whole = whole-of (covers_of l) set (covers_of r) split right.0 in
      (whole, (left.1, right.1, sides-apart l r set split right.0), joined-cost (sum_of own l) (sum_of own r) set _ _ (root.Nest (covers_of l)) whole (omega (arith, left.2, right.2, kept.1)))
  built (Hash n l r) set some below follows =
      let kept = kept-of (Hash n l r) set some below follows in
      let split = kept.0.0 in
      let part = right-part (covers_of l) set split below in
      let left = built l (covers_of l) split.some (omega (arith, split.less)) follows.1 in
      let right = built r (set - covers_of l) part.0 part.1 follows.2 in
      let whole = whole-of (covers_of l) set (covers_of r) split right.0 in (
        whole,
        (left.1, right.1, sides-apart l r set split right.0, crosses-plans n l r set right.0 kept.0.1),
        joined-cost (sum_of own l) (sum_of own r) set _ _ (root.Hash n (covers_of l)) whole (omega (arith, left.2, right.2, kept.1)),
      )
  built (Merge n l r) set some below follows =
      let kept = kept-of (Merge n l r) set some below follows in
      let split = kept.0.0 in
      let part = right-part (covers_of l) set split below in
      let left = built l (covers_of l) split.some (omega (arith, split.less)) follows.1 in
      let right = built r (set - covers_of l) part.0 part.1 follows.2 in
      let whole = whole-of (covers_of l) set (covers_of r) split right.0 in (
        whole,
        (left.1, right.1, sides-apart l r set split right.0, crosses-plans n l r set right.0 kept.0.1),
        joined-cost (sum_of own l) (sum_of own r) set _ _ (root.Merge n (covers_of l)) whole (omega (arith, left.2, right.2, kept.1)),
      )
  built (IndexLoop n l r) set some below follows =
      let kept = kept-of (IndexLoop n l r) set some below follows in
      let split = kept.0.0 in
      let found = kept.0.2 in
      let left = built l (covers_of l) split.some (omega (arith, split.less)) follows.1 in
      let whole = whole-of (covers_of l) set (2 ^ r) split (sym found.one) in
      let cross = crosses-plans n l (Scan r) set (sym found.one) kept.0.1 in (
        whole,
        (
          left.1,
          record {
            exists = found.exists;
            apart = relation-apart l r (ap (bit_and (covers_of l)) (sym found.one) ∙ split.apart);
            crosses = cross;
            indexed = found.indexed;
          },
        ),
        ap (λ s. sum_of own l + own (root.IndexLoop n (covers_of l) r) s) whole ∙ omega (arith, left.2, kept.1),
      )

  abbrev all_relations : ℕ
  all_relations = 2 ^ length block.relations - 1

  covers-whole : (p : PlanTree) → IsPlan block p → covers_of p ≡ all_relations
  covers-whole p is = covers-all p (length block.relations) (covers-below block p is.nodes) is.whole

  -- the plan that follows the entries from the set of all relations is a plan of the block, and the first of the cheapest
  pub best : (b : PlanTree) → 1 ≤ length block.relations → Follows table b all_relations
      → IsPlan block b × (sum_of own b ≡ (entry_at table all_relations).cost)
      × ((p : PlanTree) → IsPlan block p → sum_of own b ≤ sum_of own p)
      × ((p : PlanTree) → IsPlan block p → sum_of own p ≤ sum_of own b → is_gt (plan_order_of b p) ≡ false)
  best b some follows =
      let two : 2 ≤ 2 ^ length block.relations = two-at-least (length block.relations) some in
      let is = built b all_relations (omega arith) (omega arith) follows in
      let cost-at : (p : PlanTree) → IsPlan block p → (entry_at table (covers_of p)).cost ≡ sum_of own b =
      λ p plan. ap (λ set. (entry_at table set).cost) (covers-whole p plan) ∙ sym is.2 in (
        record { nodes = is.1; whole = all-covered b (length block.relations) is.0 },
        is.2,
        λ p plan. omega (arith, cheap p plan.nodes, cost-at p plan),
        λ p plan least. first p b plan.nodes (subst (Follows table b) (sym (covers-whole p plan)) follows) (omega (arith, cheap p plan.nodes, cost-at p plan, least)),
      )
