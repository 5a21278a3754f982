-- The list of all plans of a block has each plan, and nothing else.
use Rattle.std.proofs.Common.{◌≡◌, ◌↔◌, inl, inr, ℕ, zero, suc, ◌-◌, ◌^◌, ◌<◌, List, [], ◌∷◌, ◌++◌, length, map, bit_and, bit_or, refl, sym, ap, ap₂, subst, ◌∙◌, arith}
use Rattle.std.proofs.lemmas.Grind.{common_steps}
use Rattle.std.specs.Prelude.{Contains, slice_index_or}
use Rattle.std.proofs.Math.Seq.{get_or-append_seam}
use Rattle.std.proofs.lemmas.Bool.{cases_lt}
use Rattle.std.proofs.lemmas.List.{get_or_append_left}
use Rattle.std.proofs.lemmas.Nat.{pow_pos}
use Rattle.query_block.specs.Blocks.{BlockTree}
use Rattle.plan_tree.specs.declared.roots.Root.{Root}
use Rattle.plan_tree.specs.declared.roots.Root.TheVariants as root
use Rattle.plan_tree.specs.Plans.{PlanTree, Scan, IndexScan, Nest, Hash, Merge, IndexLoop, covers_of}
use Rattle.plan_tree.specs.Enumerated.{edge_at, AreApart, Crosses, IsLookUp, IsSubPlan, IsPlan}
use Rattle.plan_tree.specs.Sets.{set_of, is_between}
use Rattle.plan_tree.specs.Roots.{root_of, IsSplit, IsCrossed, Stands}
use Rattle.plan_tree.specs.AllPlans.{roots_of, pairs_by, trees_of, plans_at, plans_over, plans_below, plans_of}
use Rattle.plan_tree.proofs.Members.{IsIn, in-contained, contained-in, in-map, of-map, in-flat, of-flat}
use Rattle.plan_tree.proofs.Bits.{crosses-sets, covers-some, apart-sets, sets-apart, apart-relation, relation-apart, sum-of-sides, split-of, whole-of, covers-all, all-covered}
use Rattle.plan_tree.proofs.Outermost.{split, stands, covers-below}
use Rattle.plan_tree.proofs.Listed.{length-below}
use Rattle.plan_tree.proofs.RootLists.{of-roots, in-roots}

-- ---- the plans of one set are found in the lists of all smaller ones

abbrev pub plans_for : BlockTree → (set : ℕ) → List PlanTree
plans_for block set = plans_over block (plans_below block set) set

pub looked-up : (block : BlockTree) (end set : ℕ) → set < end → plans_at (plans_below block end) set ≡ plans_for block set
unfolding plans_below
looked-up block zero set below = absurd (omega (arith, below))
looked-up block (suc last) set below =
    let smaller = plans_below block last in
    elim (cases_lt set last) [
      | inl less ↦
          let within : set < length smaller = omega (arith, less, length-below block last) in
          get_or_append_left smaller (plans_for block last ∷ []) [] set within ∙ looked-up block last set less
      | inr past ↦
          let same : set ≡ last = omega (arith, below, past) in
          let end : set ≡ length smaller = omega (arith, same, length-below block last) in
          ap (λ i. slice_index_or (smaller ++ plans_for block last ∷ []) i []) end ∙ get_or-append_seam smaller (plans_for block last) [] []
          ∙ ap (plans_for block) (sym same)
    ]

-- ---- pairs of a left and a right plan

pub of-pairs : (join : PlanTree → PlanTree → PlanTree) (lefts rights : List PlanTree) (p : PlanTree) → IsIn p (pairs_by join lefts rights)
    → (l : PlanTree) × (r : PlanTree) × IsIn l lefts × IsIn r rights × (join l r ≡ p)
of-pairs join lefts rights p is = grind (arith, common_steps, of-flat, of-map)

in-pairs : (join : PlanTree → PlanTree → PlanTree) (l r : PlanTree) (lefts rights : List PlanTree) → IsIn l lefts → IsIn r rights
    → IsIn (join l r) (pairs_by join lefts rights)
in-pairs join l r lefts rights left right = in-flat (λ one. map (join one) rights) l (join l r) lefts left (in-map (join l) r rights right)

-- ---- what is listed is a plan of its set

abbrev pub AreOf : BlockTree → (set : ℕ) → List PlanTree → Type 0
AreOf block set plans = (p : PlanTree) → IsIn p plans → IsSubPlan block p × (covers_of p ≡ set)

-- a plan of the set with this outermost node
pub record IsTreeOf (block : BlockTree) (set : ℕ) (node : Root) (p : PlanTree) : Type 0 where
  pub plan : IsSubPlan block p
  pub covers : covers_of p ≡ set
  pub outermost : root_of p ≡ node

record AreSides (block : BlockTree) (set left : ℕ) (l r : PlanTree) : Type 0 where
  one : IsSubPlan block l
  other : IsSubPlan block r
  is_left : covers_of l ≡ left
  is_right : covers_of r ≡ set - left
  apart : AreApart l r
  whole : bit_or (covers_of l) (covers_of r) ≡ set

abbrev pub SidesAreOf : BlockTree → (set : ℕ) → (plans : ℕ → List PlanTree) → Type 0
SidesAreOf block set plans = (side : ℕ) → side < set → AreOf block side (plans side)

pub right-less : (left set : ℕ) → IsSplit left set → set - left < set
right-less left set split = omega (arith, split.some, split.less)

module _ (block : BlockTree) (plans : ℕ → List PlanTree) (set : ℕ) (sides : SidesAreOf block set plans) where
  sides-of : (left : ℕ) (l r : PlanTree) → IsSplit left set
      → IsIn l (plans left) → IsIn r (plans (set - left)) → AreSides block set left l r
  sides-of left l r split in_left in_right =
      let (one, is_left) = sides left split.less l in_left in
      let (other, is_right) = sides (set - left) (right-less left set split) r in_right in
      record {
        one = one;
        other = other;
        is_left = is_left;
        is_right = is_right;
        apart = sets-apart l r (ap₂ bit_and is_left is_right ∙ split.apart);
        whole = ap₂ bit_or is_left is_right ∙ whole-of left set (set - left) split refl;
      }

  crosses-of : (edge left : ℕ) (l r : PlanTree) → covers_of l ≡ left → covers_of r ≡ set - left
      → IsCrossed block.edges edge left (set - left) → Crosses block.edges edge l r
  crosses-of edge left l r is_left is_right crossed = (
    crossed.exists,
    crosses-sets (edge_at block.edges edge) l r
        ∙ ap₂ (λ one other. is_between (set_of one) (set_of other) (edge_at block.edges edge)) is_left is_right ∙ crossed.crosses,
  )

  of-tree : (node : Root) → Stands block node set → (p : PlanTree) → IsIn p (trees_of plans set node) → IsTreeOf block set node p
  of-tree (root.Scan relation) (below, alone) p (inl same) =
      subst (IsTreeOf block set (root.Scan relation)) same (record { plan = below; covers = sym alone; outermost = refl })
  of-tree (root.Scan relation) stands p (inr none) = absurd none
  of-tree (root.IndexScan relation column) (is, alone) p (inl same) =
      subst (IsTreeOf block set (root.IndexScan relation column)) same (record { plan = is; covers = sym alone; outermost = refl })
  of-tree (root.IndexScan relation column) stands p (inr none) = absurd none
  of-tree (root.Nest left) split p is =
      let (l, r, in_left, in_right, same) = of-pairs Nest (plans left) (plans (set - left)) p is in
      let s = sides-of left l r split in_left in_right in
      subst (IsTreeOf block set (root.Nest left)) same
      (record { plan = (s.one, s.other, s.apart); covers = s.whole; outermost = ap (λ one. root.Nest one) s.is_left })
  of-tree (root.Hash edge left) (split, crossed) p is =
      let (l, r, in_left, in_right, same) = of-pairs (Hash edge) (plans left) (plans (set - left)) p is in
      let s = sides-of left l r split in_left in_right in
      subst (IsTreeOf block set (root.Hash edge left)) same (record {
        plan = (s.one, s.other, s.apart, crosses-of edge left l r s.is_left s.is_right crossed);
        covers = s.whole;
        outermost = ap (λ one. root.Hash edge one) s.is_left;
      })
  of-tree (root.Merge edge left) (split, crossed) p is =
      let (l, r, in_left, in_right, same) = of-pairs (Merge edge) (plans left) (plans (set - left)) p is in
      let s = sides-of left l r split in_left in_right in
      subst (IsTreeOf block set (root.Merge edge left)) same (record {
        plan = (s.one, s.other, s.apart, crosses-of edge left l r s.is_left s.is_right crossed);
        covers = s.whole;
        outermost = ap (λ one. root.Merge edge one) s.is_left;
      })
  of-tree (root.IndexLoop edge left relation) (split, crossed, look) p is =
      let (l, in_left, same) = of-map (λ one. IndexLoop edge one relation) p (plans left) is in
      let (one, is_left) = sides left split.less l in_left in
      let is_right : 2 ^ relation ≡ set - left = sym look.one in
      let looks : IsLookUp block edge l relation = record {
        exists = look.exists;
        apart = relation-apart l relation (ap₂ bit_and is_left is_right ∙ split.apart);
        crosses = crosses-of edge left l (Scan relation) is_left is_right crossed;
        indexed = look.indexed;
      } in
      subst (IsTreeOf block set (root.IndexLoop edge left relation)) same (record {
        plan = (one, looks);
        covers = ap₂ bit_or is_left is_right ∙ whole-of left set (set - left) split refl;
        outermost = ap (λ side. root.IndexLoop edge side relation) is_left;
      })

  pub of-over : (node : Root) (p : PlanTree) → IsIn node (roots_of block set) → IsIn p (trees_of plans set node) → IsTreeOf block set node p
  of-over node p listed is = of-tree node (of-roots block set node listed) p is

of-set-below : (block : BlockTree) (end set : ℕ) → set < end → AreOf block set (plans_for block set)
of-set-below block zero set below p is = absurd (omega (arith, below))
of-set-below block (suc end) set below p is =
    let plans = plans_at (plans_below block set) in
    let found = of-flat (trees_of plans set) p (roots_of block set) is in
    let smaller : SidesAreOf block set plans = λ side less q there.
    of-set-below block end side (omega (arith, less, below)) q (subst (IsIn q) (looked-up block set side less) there) in
    let tree = of-over block plans set smaller found.0 p found.1 found.2 in
    (tree.plan, tree.covers)

of-set : (block : BlockTree) (set : ℕ) → AreOf block set (plans_for block set)
of-set block set = of-set-below block (suc set) set (omega arith)

pub sides-of-set : (block : BlockTree) (set : ℕ) → SidesAreOf block set (plans_at (plans_below block set))
sides-of-set block set side less p is = of-set block side p (subst (IsIn p) (looked-up block set side less) is)

-- ---- each plan is listed among those of its set

abbrev sides_in : BlockTree → (set side : ℕ) → List PlanTree
sides_in block set side = plans_at (plans_below block set) side

side-in : (block : BlockTree) (set : ℕ) (p : PlanTree) → covers_of p < set
    → IsIn p (plans_for block (covers_of p)) → IsIn p (sides_in block set (covers_of p))
side-in block set p less is = subst (IsIn p) (sym (looked-up block set (covers_of p) less)) is

both-in : (block : BlockTree) (join : PlanTree → PlanTree → PlanTree) (l r : PlanTree) → AreApart l r
    → IsIn l (plans_for block (covers_of l)) → IsIn r (plans_for block (covers_of r))
    → (set : ℕ) → set ≡ bit_or (covers_of l) (covers_of r)
    → IsIn (join l r) (pairs_by join (sides_in block set (covers_of l)) (sides_in block set (set - covers_of l)))
both-in block join l r apart left right set is =
    let parts = subst (IsSplit (covers_of l)) (sym is) (split l r apart) in
    let rest : set - covers_of l ≡ covers_of r =
    ap (λ n. n - covers_of l) is ∙ sum-of-sides (covers_of l) (covers_of r) (apart-sets l r apart) in
    let less : covers_of r < set = omega (arith, rest, right-less (covers_of l) set parts) in
    in-pairs join l r (sides_in block set (covers_of l)) (sides_in block set (set - covers_of l))
    (side-in block set l parts.less left) (subst (λ side. IsIn r (sides_in block set side)) (sym rest) (side-in block set r less right))

in-tree : (block : BlockTree) (p : PlanTree) → IsSubPlan block p
    → IsIn p (trees_of (sides_in block (covers_of p)) (covers_of p) (root_of p))
    → IsIn p (plans_for block (covers_of p))
in-tree block p plan is =
    in-flat (trees_of (sides_in block (covers_of p)) (covers_of p)) (root_of p) p (roots_of block (covers_of p))
    (in-roots block (covers_of p) (root_of p) (stands block p plan)) is

in-set : (block : BlockTree) (p : PlanTree) → IsSubPlan block p → IsIn p (plans_for block (covers_of p))
in-set block (Scan relation) plan = in-tree block (Scan relation) plan (inl refl)
in-set block (IndexScan relation column) plan = in-tree block (IndexScan relation column) plan (inl refl)
in-set block (Nest l r) (left, right, apart) =
    in-tree block (Nest l r) (left, right, apart) (both-in block Nest l r apart (in-set block l left) (in-set block r right) _ refl)
in-set block (Hash edge l r) (left, right, apart, crosses) =
    in-tree block (Hash edge l r) (left, right, apart, crosses)
    (both-in block (Hash edge) l r apart (in-set block l left) (in-set block r right) _ refl)
in-set block (Merge edge l r) (left, right, apart, crosses) =
    in-tree block (Merge edge l r) (left, right, apart, crosses)
    (both-in block (Merge edge) l r apart (in-set block l left) (in-set block r right) _ refl)
in-set block (IndexLoop edge l relation) (left, look) =
    let set = covers_of (IndexLoop edge l relation) in
    let parts = split-of (covers_of l) (2 ^ relation) (covers-some l) (covers-some (Scan relation)) (apart-relation l relation look.apart) in
    in-tree block (IndexLoop edge l relation) (left, look)
    (in-map (λ one. IndexLoop edge one relation) l (sides_in block set (covers_of l)) (side-in block set l parts.less (in-set block l left)))

-- ---- all plans of a block

pub last-list : (block : BlockTree) → plans_of block ≡ plans_for block (2 ^ length block.relations - 1)
last-list block = grind (arith, common_steps, looked-up, pow_pos)

pub in-plans : (block : BlockTree) (p : PlanTree) → IsPlan block p → IsIn p (plans_of block)
in-plans block p plan = grind (arith, common_steps, covers-all, covers-below, last-list, in-set)

pub of-plans : (block : BlockTree) (p : PlanTree) → IsIn p (plans_of block) → IsPlan block p
of-plans block p is =
    let found = of-set block (2 ^ length block.relations - 1) p (subst (IsIn p) (last-list block) is) in
    record { nodes = found.0; whole = all-covered p (length block.relations) found.1 }

pub plans-listed : (block : BlockTree) (p : PlanTree) → Contains (plans_of block) p ↔ IsPlan block p
plans-listed block p = (
  λ is. of-plans block p (in-contained p (plans_of block) is),
  λ plan. contained-in p (plans_of block) (in-plans block p plan),
)
