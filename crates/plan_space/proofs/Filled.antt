-- How the table is filled, and what a filled table tells.
use Rattle.std.proofs.Common.{◌≡◌, ◌≢◌, ◌⊎◌, inl, inr, ℕ, ◌+◌, ◌-◌, ◌^◌, ◌<◌, ◌≤◌, Bool, true, false, List, length, nat_eq, nat_lt, bit_or, get_or-set_same, get_or-set_other, refl, sym, ap, ap₂, subst, ◌∙◌, arith}
use Rattle.std.specs.Prelude.{slice_set}
use Rattle.std.specs.Ordering.{is_gt}
use Rattle.std.proofs.lemmas.Nat.{pow_pos}
use Rattle.query_block.specs.Blocks.{BlockTree}
use Rattle.plan_tree.specs.Plans.{PlanTree}
use Rattle.plan_tree.specs.Enumerated.{IsPlan}
use Rattle.cost_model.specs.Costing.{costing_tree, IsCosting}
use Rattle.cost_model.specs.Costs.{cost_of}
use Rattle.cost_model.specs.Best.{IsCheapest, IsBest}
use Rattle.cost_model.specs.Optimal.{optimal_cost}
use Rattle.cost_model.proofs.Least.{optimal-cheapest}
use Rattle.cost_model.proofs.Sets.{next-power, power-to, low-apart}
use Rattle.plan_tree.specs.declared.roots.Root.{Root}
use Rattle.plan_tree.specs.declared.roots.Root.TheVariants as root
use Rattle.plan_space.specs.declared.entry.Entry.{Entry}
use Rattle.plan_tree.specs.Roots.{Stands, IsSplit}
use Rattle.plan_space.specs.Table.{entry_at, side_costs, offered, NotLater, IsLeast, AllStand, AreLeast, Follows}
use Rattle.cost_model.specs.Prices.{OwnCost, sum_of, own_at, block_at}
use Rattle.cost_model.specs.Pricing.{Pricing}
use Rattle.plan_space.specs.Search.{SearchShape, IsFound, IsLeastFound}
use Rattle.plan_space.specs.Steps.{Considers, ReadsRelation, HasLeft}
use Rattle.plan_tree.proofs.Bits.{whole-of}
use Rattle.plan_space.proofs.Exchange.{best}
use Rattle.cost_model.proofs.Sums.{costs-are-sums}
use Rattle.plan_space.proofs.Considered.{not-later-then}

-- the highest relation alone, and the others
pub highest-split : (relation set : ℕ) → 2 ^ relation ≤ set → set ≢ 2 ^ relation → set < 2 ^ (relation + 1) → IsSplit (2 ^ relation) set
highest-split relation set least other highest = record {
  some = omega (arith, pow_pos relation);
  less = omega (arith, least, other);
  apart = low-apart relation (set - 2 ^ relation) (omega (arith, next-power relation, highest, least, pow_pos relation));
}

-- ---- the entry of a set

reads-or-joins : (block : BlockTree) (set : ℕ) (node : Root) → Stands block node set → ReadsRelation node ⊎ HasLeft (λ side. side < set) node
reads-or-joins block set (root.Scan r) stands = inl tt
reads-or-joins block set (root.IndexScan r c) stands = inl tt
reads-or-joins block set (root.Nest s) stands = inr stands.less
reads-or-joins block set (root.Hash n s) stands = inr stands.0.less
reads-or-joins block set (root.Merge n s) stands = inr stands.0.less
reads-or-joins block set (root.IndexLoop n s r) stands = inr stands.0.less

between : (relation set other : ℕ) → 2 ^ relation < set → set < 2 ^ (relation + 1) → set ≡ 2 ^ other → ⊥
between relation set other least highest is = by (nat_lt relation other) refl
  where
    by : (t : Bool) → nat_lt relation other ≡ t → ⊥
    by true less =
        let lt : relation < other = grind arith in
        let le = power-to (relation + 1) other (omega arith) in
        omega (arith, le, highest, is)
    by false less =
        let ge : other ≤ relation = grind arith in
        let le = power-to other relation ge in
        omega (arith, le, least, is)

no-reading : (block : BlockTree) (relation set : ℕ) → 2 ^ relation < set → set < 2 ^ (relation + 1) → (node : Root) → ReadsRelation node → Stands block node set → ⊥
no-reading block relation set least highest (root.Scan r) group stands = between relation set r least highest stands.1
no-reading block relation set least highest (root.IndexScan r c) group stands = between relation set r least highest stands.1
no-reading block relation set least highest (root.Nest s) group stands = group
no-reading block relation set least highest (root.Hash n s) group stands = group
no-reading block relation set least highest (root.Merge n s) group stands = group
no-reading block relation set least highest (root.IndexLoop n s r) group stands = group

module _ (sought : SearchShape) where
  pub least-alone : (start result : Entry) → IsFound sought start → Considers sought ReadsRelation start start → Considers sought (HasLeft (λ side. side < sought.set)) start result → IsLeastFound sought result
  least-alone start result found readings joins = record {
    kept = joins.kept found;
    least = λ node stands. elim (reads-or-joins (block_at sought.at) sought.set node stands) [
      | inl reads ↦ not-later-then result start (offered (own_at sought.at) sought.table node sought.set) joins.found (readings.all node reads stands)
      | inr before ↦ joins.all node before stands
    ];
  }

  pub least-split : (relation : ℕ) (start result : Entry) → 2 ^ relation < sought.set → sought.set < 2 ^ (relation + 1) → IsFound sought start
      → Considers sought (HasLeft (λ side. side < sought.set)) start result → IsLeastFound sought result
  least-split relation start result least highest found joins = record {
    kept = joins.kept found;
    least = λ node stands. elim (reads-or-joins (block_at sought.at) sought.set node stands) [
      | inl reads ↦ absurd (no-reading (block_at sought.at) relation sought.set least highest node reads stands)
      | inr before ↦ joins.all node before stands
    ];
  }

-- ---- one entry more

module _ (own : OwnCost) (block : BlockTree) (table : List Entry) (end : ℕ) (entry : Entry) (long : length table ≡ 64) (small : end < 64) where
  abbrev more : List Entry
  more = slice_set table end entry

  other : (s : ℕ) → s ≢ end → entry_at more s ≡ entry_at table s
  other s ne = get_or-set_other table end s entry _ ne

  sides-same : (node : Root) (s : ℕ) → s ≤ end → Stands block node s → side_costs more node s ≡ side_costs table node s
  sides-same (root.Scan r) s le stands = refl
  sides-same (root.IndexScan r c) s le stands = refl
  sides-same (root.Nest l) s le split =
      ap₂ (λ (a : Entry) (b : Entry). a.cost + b.cost) (other l (λ e. omega (arith, e, split.less, le))) (other (s - l) (λ e. omega (arith, e, split.some, split.less, le)))
  sides-same (root.Hash n l) s le (split, cross) =
      ap₂ (λ (a : Entry) (b : Entry). a.cost + b.cost) (other l (λ e. omega (arith, e, split.less, le))) (other (s - l) (λ e. omega (arith, e, split.some, split.less, le)))
  sides-same (root.Merge n l) s le (split, cross) =
      ap₂ (λ (a : Entry) (b : Entry). a.cost + b.cost) (other l (λ e. omega (arith, e, split.less, le))) (other (s - l) (λ e. omega (arith, e, split.some, split.less, le)))
  sides-same (root.IndexLoop n l r) s le (split, cross, found) = ap (λ (a : Entry). a.cost) (other l (λ e. omega (arith, e, split.less, le)))

  still-least : (s : ℕ) (one : Entry) → s ≤ end → IsLeast own block table s one → IsLeast own block more s one
  still-least s one le least = record {
    kept = record {
      stands = least.kept.stands;
      cost = least.kept.cost ∙ ap (λ sides. sides + own one.root s) (sym (sides-same one.root s le least.kept.stands));
      bound = least.kept.bound;
    };
    least = λ node stands.
        let same = sides-same node s le stands in
        let entries : offered own table node s ≡ offered own more node s = λ i. record { cost = sym same i + own node s; root = node } in
        subst (NotLater one) entries (least.least node stands);
  }

  pub add-least : AreLeast own block table end → IsLeast own block table end entry → AreLeast own block more (end + 1)
  add-least before least s some below = by (nat_eq s end) refl
    where
      by : (t : Bool) → nat_eq s end ≡ t → IsLeast own block more s (entry_at more s)
      by true is =
          let same : s ≡ end = grind arith in
          let there : end < length table = omega (arith, long, small) in
          let last : entry_at more end ≡ entry = get_or-set_same table end entry _ there in
          subst (λ n. IsLeast own block more n (entry_at more n)) (sym same) (subst (IsLeast own block more end) (sym last) (still-least end entry (omega arith) least))
      by false is =
          let ne : s ≢ end = grind arith in
          subst (IsLeast own block more s) (sym (other s ne)) (still-least s (entry_at table s) (omega (arith, below)) (before s some (omega (arith, below, ne))))

-- ---- what a filled table tells

pub standing : (own : OwnCost) (block : BlockTree) (table : List Entry) → AreLeast own block table (2 ^ length block.relations) → AllStand block table
standing own block table least set some below = (least set some below).kept.stands

module _ (block : BlockTree) (table : List Entry) (standing : AllStand block table) (set : ℕ) (some : 1 ≤ set) (below : set < 2 ^ length block.relations) where
  stands-there : (node : Root) → (entry_at table set).root ≡ node → Stands block node set
  stands-there node is = subst (λ one. Stands block one set) is (standing set some below)

  covered : (left a b : ℕ) → IsSplit left set → a ≡ left → b ≡ set - left → bit_or a b ≡ set
  covered left a b split one other = ap (λ x. bit_or x b) one ∙ whole-of left set b split other

  pub covers-nest : (left a b : ℕ) → (entry_at table set).root ≡ root.Nest left → a ≡ left → b ≡ set - left → bit_or a b ≡ set
  covers-nest left a b is one other = covered left a b (stands-there (root.Nest left) is) one other

  pub covers-hash : (edge left a b : ℕ) → (entry_at table set).root ≡ root.Hash edge left → a ≡ left → b ≡ set - left → bit_or a b ≡ set
  covers-hash edge left a b is one other = covered left a b (stands-there (root.Hash edge left) is).0 one other

  pub covers-merge : (edge left a b : ℕ) → (entry_at table set).root ≡ root.Merge edge left → a ≡ left → b ≡ set - left → bit_or a b ≡ set
  covers-merge edge left a b is one other = covered left a b (stands-there (root.Merge edge left) is).0 one other

  pub covers-loop : (edge left relation a : ℕ) → (entry_at table set).root ≡ root.IndexLoop edge left relation → a ≡ left → bit_or a (2 ^ relation) ≡ set
  covers-loop edge left relation a is one =
      let stands = stands-there (root.IndexLoop edge left relation) is in
      covered left a (2 ^ relation) stands.0 one (sym stands.2.one)

-- the plan that follows a filled table is the best one
pub is-best : (at : Pricing) (table : List Entry) (b : PlanTree) (all : ℕ) → IsCosting (costing_tree at.costing)
    → AreLeast (own_at at) (block_at at) table (2 ^ length (block_at at).relations) → all ≡ 2 ^ length (block_at at).relations - 1 → Follows table b all
    → IsBest (costing_tree at.costing) at.point b × ((entry_at table all).cost ≡ optimal_cost (costing_tree at.costing) at.point)
is-best at table b all is filled whole follows =
    let costing = costing_tree at.costing in
    let found = best (own_at at) (block_at at) table filled b is.block.some (subst (Follows table b) whole follows) in
    let sum : (p : PlanTree) → IsPlan costing.block p → cost_of costing p at.point ≡ sum_of (own_at at) p = λ p plan. costs-are-sums costing at.point p plan.nodes in
    let cheapest : IsCheapest costing at.point b = record {
      plan = found.0;
      least = λ other plan. omega (arith, sum b found.0, sum other plan, found.2 other plan);
    } in (
      record {
        cheapest = cheapest;
        first = λ other cheap greater.
            let none = found.3 other cheap.plan (omega (arith, sum b found.0, sum other cheap.plan, cheap.least b found.0)) in
            let gt = ap is_gt greater in
            cc;
      },
      ap (λ set. (entry_at table set).cost) whole ∙ sym found.1 ∙ sym (sum b found.0) ∙ optimal-cheapest costing b at.point cheapest,
    )
