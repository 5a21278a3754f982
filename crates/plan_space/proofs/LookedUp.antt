-- What was found for a set at one point serves at each point that has the same levels on the axes inside the set: there
-- cards, own costs and the costs of least entries are the same.
use Rattle.std.proofs.Common.{◌≡◌, ℕ, zero, suc, ◌+◌, ◌-◌, ◌*◌, ◌^◌, ◌<◌, ◌≤◌, ◌&&◌, ◌||◌, ◌⊎◌, inl, inr, not, Bool, true, false, IsTrue, List, [], nat_eq, bit_and, bit_or, refl, sym, ap, subst, ◌∙◌, arith}
use Rattle.std.specs.Prelude.{slice_index}
use Rattle.std.specs.Int.{bit_at}
use Rattle.std.proofs.lemmas.Nat.{pow_pos}
use Rattle.std.proofs.lemmas.Nat.Bits.{bit_at_or, bit_at-lt, bit_at-pow_same, and_pow}
use Rattle.ess_grid.specs.Levels.{selectivity_of}
use Rattle.query_block.specs.declared.edge.Edge.{Edge}
use Rattle.query_block.specs.Blocks.{BlockTree}
use Rattle.query_block.specs.Meaning.{is_inside}
use Rattle.plan_tree.specs.Enumerated.{edge_at, column_on}
use Rattle.plan_tree.specs.Sets.{set_of, is_between}
use Rattle.plan_tree.specs.Work.{nest_work, hash_work, merge_work, index_loop_work}
use Rattle.cost_model.specs.Costing.{CostingTree}
use Rattle.cost_model.specs.AtPoint.{scaled, stats_at}
use Rattle.cost_model.specs.Alike.{IsAlike}
use Rattle.cost_model.specs.Costs.{relation_stats, index_stats, scan_cost, index_scan_cost}
use Rattle.cost_model.proofs.AtPoint.{rows-at, pages-at, height-at}
use Rattle.cost_model.proofs.Alike.{card-alike, index-alike}
use Rattle.plan_tree.specs.declared.roots.Root.{Root}
use Rattle.plan_tree.specs.declared.roots.Root.TheVariants as root
use Rattle.plan_space.specs.declared.entry.Entry.{Entry}
use Rattle.plan_tree.specs.Roots.{Stands, IsSplit, IsCrossed}
use Rattle.plan_space.specs.Table.{entry_at, side_costs, offered, NotLater, IsLeast, AreLeast}
use Rattle.cost_model.specs.Prices.{OwnCost, set_card, own_cost}
use Rattle.plan_tree.proofs.Bits.{whole-of}
use Rattle.plan_space.proofs.Exchange.{costs-no-more}

-- ---- sides lie in their set, and an edge between them is inside it

member-bit : (set relation : ℕ) → IsTrue (set_of set relation) → 1 ≤ bit_at set relation
member-bit set relation is = by (nat_eq (bit_at set relation) 0) refl
  where
    by : (t : Bool) → nat_eq (bit_at set relation) 0 ≡ t → 1 ≤ bit_at set relation
    by true e =
        let none : bit_at set relation ≡ 0 = grind arith in
        let product : bit_and set (2 ^ relation) ≡ 0 = and_pow set relation ∙ ap (λ bit. bit * 2 ^ relation) none ∙ omega arith in
        let out : not (nat_eq (bit_and set (2 ^ relation)) 0) ≡ false = ap (λ n. not (nat_eq n 0)) product in
        cc
    by false e = grind arith

bit-member : (set relation : ℕ) → 1 ≤ bit_at set relation → IsTrue (set_of set relation)
bit-member set relation some = by (nat_eq (bit_and set (2 ^ relation)) 0) refl
  where
    by : (t : Bool) → nat_eq (bit_and set (2 ^ relation)) 0 ≡ t → IsTrue (not t)
    by true e =
        let none : bit_and set (2 ^ relation) ≡ 0 = grind arith in
        let one : bit_at set relation ≡ 1 = omega (arith, some, bit_at-lt set relation) in
        let product : bit_and set (2 ^ relation) ≡ 1 * 2 ^ relation = and_pow set relation ∙ ap (λ bit. bit * 2 ^ relation) one in
        absurd (omega (arith, none, product, pow_pos relation))
    by false e = refl

member-left : (left set relation : ℕ) → IsSplit left set → IsTrue (set_of left relation) → IsTrue (set_of set relation)
member-left left set relation split is =
    let bit : 1 ≤ bit_at (bit_or left (set - left)) relation = omega (arith, bit_at_or left (set - left) relation, member-bit left relation is) in
    subst (λ one. IsTrue (set_of one relation)) (whole-of left set (set - left) split refl) (bit-member (bit_or left (set - left)) relation bit)

member-right : (left set relation : ℕ) → IsSplit left set → IsTrue (set_of (set - left) relation) → IsTrue (set_of set relation)
member-right left set relation split is =
    let bit : 1 ≤ bit_at (bit_or left (set - left)) relation = omega (arith, bit_at_or left (set - left) relation, member-bit (set - left) relation is) in
    subst (λ one. IsTrue (set_of one relation)) (whole-of left set (set - left) split refl) (bit-member (bit_or left (set - left)) relation bit)

and-both : (a b : Bool) → IsTrue (a && b) → IsTrue a × IsTrue b
and-both true true is = (refl, refl)
and-both true false is = cc
and-both false b is = cc

or-either : (a b : Bool) → IsTrue (a || b) → IsTrue a ⊎ IsTrue b
or-either true b is = inl refl
or-either false b is = inr is

both-and : (a b : Bool) → IsTrue a → IsTrue b → IsTrue (a && b)
both-and a b p q i = p i && q i

inside-set : (side set : ℕ) (edge : Edge) → ((relation : ℕ) → IsTrue (set_of side relation) → IsTrue (set_of set relation)) → IsTrue (is_inside (set_of side) edge) → IsTrue (is_inside (set_of set) edge)
inside-set side set edge member is =
    let two = and-both (set_of side edge.left) (set_of side edge.right) is in
    both-and _ _ (member edge.left two.0) (member edge.right two.1)

between-inside : (left set : ℕ) (edge : Edge) → IsSplit left set → IsTrue (is_between (set_of left) (set_of (set - left)) edge) → IsTrue (is_inside (set_of set) edge)
between-inside left set edge split is =
    elim (or-either (set_of left edge.left && set_of (set - left) edge.right) (set_of left edge.right && set_of (set - left) edge.left) is) [
      | inl one ↦
          let two = and-both (set_of left edge.left) (set_of (set - left) edge.right) one in
          both-and _ _ (member-left left set edge.left split two.0) (member-right left set edge.right split two.1)
      | inr one ↦
          let two = and-both (set_of left edge.right) (set_of (set - left) edge.left) one in
          both-and _ _ (member-right left set edge.left split two.1) (member-left left set edge.right split two.0)
    ]

-- the one relation of a set is in it
one-member : (set relation : ℕ) → set ≡ 2 ^ relation → IsTrue (set_of set relation)
one-member set relation is =
    let bit : 1 ≤ bit_at set relation = omega (arith, ap (λ s. bit_at s relation) is, bit_at-pow_same relation) in
    bit-member set relation bit

-- ---- points that are alike for a set are so for its sides

abbrev pub AreAlike : BlockTree → (set : ℕ) → (point other : List ℕ) → Type 0
AreAlike block set point other = IsAlike block (set_of set) point other

pub alike-left : (block : BlockTree) (left set : ℕ) (point other : List ℕ) → IsSplit left set → AreAlike block set point other → AreAlike block left point other
alike-left block left set point other split alike = record {
  edges = λ edge below inside. alike.edges edge below (inside-set left set (edge_at block.edges edge) (λ relation is. member-left left set relation split is) inside);
  relations = λ relation axis there is. alike.relations relation axis (member-left left set relation split there) is;
}

pub alike-right : (block : BlockTree) (left set : ℕ) (point other : List ℕ) → IsSplit left set → AreAlike block set point other → AreAlike block (set - left) point other
alike-right block left set point other split alike = record {
  edges = λ edge below inside. alike.edges edge below (inside-set (set - left) set (edge_at block.edges edge) (λ relation is. member-right left set relation split is) inside);
  relations = λ relation axis there is. alike.relations relation axis (member-right left set relation split there) is;
}

-- ---- own costs

card-same : (costing : CostingTree) (set : ℕ) (point other : List ℕ) → AreAlike costing.block set point other → set_card costing point set ≡ set_card costing other set
card-same costing set point other alike = card-alike costing (set_of set) point other alike

rows-same : (costing : CostingTree) (point other : List ℕ) (relation : ℕ) → (relation_stats (stats_at costing point) relation).rows ≡ (relation_stats (stats_at costing other) relation).rows
rows-same costing point other relation = rows-at costing point relation ∙ sym (rows-at costing other relation)

pages-same : (costing : CostingTree) (point other : List ℕ) (relation : ℕ) → (relation_stats (stats_at costing point) relation).pages ≡ (relation_stats (stats_at costing other) relation).pages
pages-same costing point other relation = pages-at costing point relation ∙ sym (pages-at costing other relation)

height-same : (costing : CostingTree) (point other : List ℕ) (relation column : ℕ)
    → (index_stats (stats_at costing point) relation column).height ≡ (index_stats (stats_at costing other) relation column).height
height-same costing point other relation column = height-at costing point relation column ∙ sym (height-at costing other relation column)

level-between : (block : BlockTree) (edge left set : ℕ) (point other : List ℕ) → IsSplit left set → IsCrossed block.edges edge left (set - left) → AreAlike block set point other
    → slice_index point edge ≡ slice_index other edge
level-between block edge left set point other split cross alike =
    alike.edges edge cross.exists (between-inside left set (edge_at block.edges edge) split cross.crosses)

-- what a node costs by itself
pub own-alike : (costing : CostingTree) (point other : List ℕ) (node : Root) (set : ℕ) → Stands costing.block node set → AreAlike costing.block set point other
    → own_cost costing point node set ≡ own_cost costing other node set
unfolding own_cost
own-alike costing point other (root.Scan r) set stands alike =
    let pages = pages-same costing point other r in
    let rows = rows-same costing point other r in
    let out = card-same costing set point other alike in
    λ i. scan_cost (record { rows = rows i; pages = pages i; kept = 0; columns = [] }) (out i)
own-alike costing point other (root.IndexScan r c) set (scannable, one) alike =
    let index = index-alike costing (set_of set) point other alike r c (one-member set r one) in
    let out = card-same costing set point other alike in
    λ i. index_scan_cost (index i) (out i)
own-alike costing point other (root.Nest l) set split alike =
    let a = card-same costing l point other (alike-left costing.block l set point other split alike) in
    let b = card-same costing (set - l) point other (alike-right costing.block l set point other split alike) in
    let c = card-same costing set point other alike in
    λ i. nest_work (a i) (b i) (c i)
own-alike costing point other (root.Hash n l) set (split, cross) alike =
    let a = card-same costing l point other (alike-left costing.block l set point other split alike) in
    let b = card-same costing (set - l) point other (alike-right costing.block l set point other split alike) in
    let c = card-same costing set point other alike in
    let level = level-between costing.block n l set point other split cross alike in
    λ i. hash_work (a i) (b i) (scaled (a i * b i) (selectivity_of costing.grid.levels (level i))) (c i)
own-alike costing point other (root.Merge n l) set (split, cross) alike =
    let a = card-same costing l point other (alike-left costing.block l set point other split alike) in
    let b = card-same costing (set - l) point other (alike-right costing.block l set point other split alike) in
    let c = card-same costing set point other alike in
    let level = level-between costing.block n l set point other split cross alike in
    λ i. merge_work (a i) (b i) (scaled (a i * b i) (selectivity_of costing.grid.levels (level i))) (c i)
own-alike costing point other (root.IndexLoop n l r) set (split, cross, found) alike =
    let a = card-same costing l point other (alike-left costing.block l set point other split alike) in
    let c = card-same costing set point other alike in
    let level = level-between costing.block n l set point other split cross alike in
    let height = height-same costing point other r (column_on (edge_at costing.block.edges n) r) in
    let rows = rows-same costing point other r in
    λ i. index_loop_work (height i) (a i) (scaled (a i * rows i) (selectivity_of costing.grid.levels (level i))) (c i)

-- ---- least entries at two points

module _ (costing : CostingTree) (point other : List ℕ) (table row : List Entry) where
  abbrev mine : OwnCost
  mine = own_cost costing point

  abbrev theirs : OwnCost
  theirs = own_cost costing other

  -- the entries of the sides of a set cost the same in both tables
  abbrev SameBelow : (set : ℕ) → Type 0
  SameBelow set = (side : ℕ) → 1 ≤ side → side < set → AreAlike costing.block side point other → (entry_at table side).cost ≡ (entry_at row side).cost

  both-sides : (left set : ℕ) → SameBelow set → IsSplit left set → AreAlike costing.block set point other
      → (entry_at table left).cost + (entry_at table (set - left)).cost ≡ (entry_at row left).cost + (entry_at row (set - left)).cost
  both-sides left set same split alike =
      let a = same left split.some split.less (alike-left costing.block left set point other split alike) in
      let b = same (set - left) (omega (arith, split.less)) (omega (arith, split.some, split.less)) (alike-right costing.block left set point other split alike) in
      λ i. a i + b i

  sides-alike : (node : Root) (set : ℕ) → SameBelow set → Stands costing.block node set → AreAlike costing.block set point other → side_costs table node set ≡ side_costs row node set
  sides-alike (root.Scan r) set same stands alike = refl
  sides-alike (root.IndexScan r c) set same stands alike = refl
  sides-alike (root.Nest l) set same split alike = both-sides l set same split alike
  sides-alike (root.Hash n l) set same (split, cross) alike = both-sides l set same split alike
  sides-alike (root.Merge n l) set same (split, cross) alike = both-sides l set same split alike
  sides-alike (root.IndexLoop n l r) set same (split, cross, found) alike = same l split.some split.less (alike-left costing.block l set point other split alike)

  offered-alike : (node : Root) (set : ℕ) → SameBelow set → Stands costing.block node set → AreAlike costing.block set point other
      → side_costs table node set + mine node set ≡ side_costs row node set + theirs node set
  offered-alike node set same stands alike =
      let a = sides-alike node set same stands alike in
      let b = own-alike costing point other node set stands alike in
      λ i. a i + b i

  module _ (end : ℕ) (least : AreLeast mine costing.block table end) (also : AreLeast theirs costing.block row end) where
    costs-alike : (fuel set : ℕ) → set ≤ fuel → 1 ≤ set → set < end → AreAlike costing.block set point other → (entry_at table set).cost ≡ (entry_at row set).cost
    costs-alike zero set le some below alike = absurd (omega (arith, le, some))
    costs-alike (suc fuel) set le some below alike =
        let same : SameBelow set = λ side one less sides. costs-alike fuel side (omega (arith, less, le)) one (omega (arith, less, below)) sides in
        let a = least set some below in
        let b = also set some below in
        let first = entry_at table set in
        let second = entry_at row set in
        let no-more = costs-no-more first (offered mine table second.root set) (a.least second.root b.kept.stands) in
        let no-less = costs-no-more second (offered theirs row first.root set) (b.least first.root a.kept.stands) in
        let there = offered-alike second.root set same b.kept.stands alike in
        let here = offered-alike first.root set same a.kept.stands alike in
        omega (arith, no-more, no-less, there, here, a.kept.cost, b.kept.cost)

  -- the entry of a set that is least at one point is least at the other
  pub looked-up : (set : ℕ) (entry : Entry) → AreLeast mine costing.block table set → AreLeast theirs costing.block row set → AreAlike costing.block set point other
      → IsLeast mine costing.block table set entry → IsLeast theirs costing.block row set entry
  looked-up set entry least also alike is =
      let same : SameBelow set = λ side one less sides. costs-alike set least also side side (omega arith) one less sides in
      record {
        kept = record {
          stands = is.kept.stands;
          cost = is.kept.cost ∙ offered-alike entry.root set same is.kept.stands alike;
          bound = is.kept.bound;
        };
        least = λ node stands.
            let cost = offered-alike node set same stands alike in
            let entries : offered mine table node set ≡ offered theirs row node set = λ i. record { cost = cost i; root = node } in
            subst (NotLater entry) entries (is.least node stands);
      }
