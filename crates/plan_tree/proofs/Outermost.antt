-- The outermost node of a plan stands over the plan's set.
use Rattle.std.proofs.Common.{◌≡◌, ℕ, ◌-◌, ◌^◌, ◌<◌, length, bit_or, refl, sym, subst, ◌∙◌, arith}
use Rattle.std.proofs.lemmas.Grind.{common_steps}
use Rattle.std.proofs.lemmas.Nat.{or_lt}
use Rattle.query_block.specs.Blocks.{BlockTree}
use Rattle.plan_tree.specs.Plans.{PlanTree, Scan, IndexScan, Nest, Hash, Merge, IndexLoop, covers_of}
use Rattle.plan_tree.specs.Enumerated.{edge_at, AreApart, Crosses, IsSubPlan}
use Rattle.plan_tree.specs.Order.{node_numbers}
use Rattle.plan_tree.specs.Roots.{root_of, root_numbers, IsSplit, IsCrossed, Stands}
use Rattle.plan_tree.proofs.Bits.{crosses-sets, covers-some, apart-sets, apart-relation, sum-of-sides, split-of, power-below}

pub numbers-of : (p : PlanTree) → node_numbers p ≡ root_numbers (root_of p)
numbers-of (Scan r) = refl
numbers-of (IndexScan r c) = refl
numbers-of (Nest l r) = refl
numbers-of (Hash e l r) = refl
numbers-of (Merge e l r) = refl
numbers-of (IndexLoop e l r) = refl

pub split : (l r : PlanTree) → AreApart l r → IsSplit (covers_of l) (bit_or (covers_of l) (covers_of r))
split l r apart = split-of (covers_of l) (covers_of r) (covers-some l) (covers-some r) (apart-sets l r apart)

crossed : (block : BlockTree) (edge : ℕ) (l r : PlanTree) → AreApart l r → Crosses block.edges edge l r
    → IsCrossed block.edges edge (covers_of l) (bit_or (covers_of l) (covers_of r) - covers_of l)
crossed block edge l r apart (exists, crosses) = grind (arith, common_steps, sum-of-sides, apart-sets, crosses-sets)

pub stands : (block : BlockTree) (p : PlanTree) → IsSubPlan block p → Stands block (root_of p) (covers_of p)
stands block (Scan r) is = (is, refl)
stands block (IndexScan r c) is = (is, refl)
stands block (Nest l r) (left, right, apart) = split l r apart
stands block (Hash e l r) (left, right, apart, cross) = (split l r apart, crossed block e l r apart cross)
stands block (Merge e l r) (left, right, apart, cross) = (split l r apart, crossed block e l r apart cross)
stands block (IndexLoop e l r) (left, look) =
    let none = apart-relation l r look.apart in
    let side = sum-of-sides (covers_of l) (2 ^ r) none in (
      split-of (covers_of l) (2 ^ r) (covers-some l) (covers-some (Scan r)) none,
      subst (IsCrossed block.edges e (covers_of l)) (sym side)
          (record { exists = look.crosses.0; crosses = sym (crosses-sets (edge_at block.edges e) l (Scan r)) ∙ look.crosses.1 }),
      record { one = side; exists = look.exists; indexed = look.indexed },
    )

-- a plan's set is among those of the block
pub covers-below : (block : BlockTree) (p : PlanTree) → IsSubPlan block p → covers_of p < 2 ^ length block.relations
covers-below block (Scan r) is = power-below r _ is
covers-below block (IndexScan r c) is = power-below r _ is.exists
covers-below block (Nest l r) (left, right, apart) = or_lt _ _ _ (covers-below block l left) (covers-below block r right)
covers-below block (Hash e l r) (left, right, apart, cross) = or_lt _ _ _ (covers-below block l left) (covers-below block r right)
covers-below block (Merge e l r) (left, right, apart, cross) = or_lt _ _ _ (covers-below block l left) (covers-below block r right)
covers-below block (IndexLoop e l r) (left, look) = or_lt _ _ _ (covers-below block l left) (power-below r _ look.exists)
