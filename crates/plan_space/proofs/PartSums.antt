-- One sum more, and its node.
use Rattle.std.proofs.Common.{◌≡◌, inl, inr, ℕ, ◌+◌, List, [], ◌∷◌, ◌++◌, length, sym, ap, ◌∙◌, subst, arith}
use Rattle.std.proofs.Math.ListN.{length-append, get_or-append}
use Rattle.std.proofs.Math.Seq.{get_or-append_seam}
use Rattle.std.proofs.lemmas.Bool.{cases_lt}
use Rattle.query_block.specs.Blocks.{block_tree}
use Rattle.plan_tree.specs.Plans.{PlanTree}
use Rattle.plan_tree.specs.declared.roots.Root.{Root}
use Rattle.plan_tree.specs.declared.roots.Root.TheVariants as root
use Rattle.plan_space.specs.declared.node.Node.{Node}
use Rattle.plan_space.specs.declared.part_sums.PartSum.{PartSum}
use Rattle.plan_space.specs.Parts.{PartsShape, nth_plan, node_at, plan_over, AreSidesBelow}
use Rattle.plan_space.specs.PartSums.{StandsAlone, AllStandAlone, IsFoundOrAdded, HasSides, AreSidesAt, IsPartSum, sum_at, ArePartSums}
use Rattle.plan_space.proofs.PartCosts.{IsKnown, stands-alone}

sides-are : (parts : List PlanTree) (node : Root) (left right end : ℕ) (sum : PartSum) → AreSidesBelow node left right end → HasSides node left right (length parts) sum
    → AreSidesAt parts (plan_over parts node left right) sum.left sum.right end
sides-are parts (root.Scan r) left right end sum below has = has
sides-are parts (root.IndexScan r c) left right end sum below has = has
sides-are parts (root.Nest s) left right end sum (a, b) (l, r) =
    (record { below = omega (arith, a, l); is = ap (nth_plan parts) l }, record { below = omega (arith, b, r); is = ap (nth_plan parts) r })
sides-are parts (root.Hash e s) left right end sum (a, b) (l, r) =
    (record { below = omega (arith, a, l); is = ap (nth_plan parts) l }, record { below = omega (arith, b, r); is = ap (nth_plan parts) r })
sides-are parts (root.Merge e s) left right end sum (a, b) (l, r) =
    (record { below = omega (arith, a, l); is = ap (nth_plan parts) l }, record { below = omega (arith, b, r); is = ap (nth_plan parts) r })
sides-are parts (root.IndexLoop e s one) left right end sum a (l, r) = (record { below = omega (arith, a, l); is = ap (nth_plan parts) l }, r)

-- what is known of a part's node, of the node that has the same sets, and of the sum
pub record IsSumKnown (shape : PartsShape) (before after : List Node) (node own : Node) (sum : PartSum) (number : ℕ) : Type 0 where
  pub part : IsKnown (block_tree shape.block) shape.plans node number
  pub found : IsFoundOrAdded before after own sum.node
  pub root : own.root ≡ node.root
  pub set : own.set ≡ node.set
  pub sides : HasSides node.root node.left node.right (length shape.plans) sum

all-stand : (shape : PartsShape) (before after : List Node) (node own : Node) (sum : PartSum) (number : ℕ) → IsSumKnown shape before after node own sum number
    → AllStandAlone (block_tree shape.block) before → AllStandAlone (block_tree shape.block) after
all-stand shape before after node own sum number is stand place less =
    let block = block_tree shape.block in
    elim (cases_lt place (length before)) [
      | inl old ↦ subst (StandsAlone block) (sym (is.found.kept place old)) (stand place old)
      | inr new ↦
          let same = is.found.new place new less in
          stands-alone block shape.plans node (node_at after place) number is.part (same.root ∙ is.root) (same.set ∙ is.set)
    ]

this-sum : (shape : PartsShape) (before after : List Node) (node own : Node) (sum : PartSum) (number : ℕ) → IsSumKnown shape before after node own sum number
    → IsPartSum shape.plans after sum number
this-sum shape before after node own sum number is = record {
  node = record {
    exists = is.found.exists;
    root = is.found.same.root ∙ is.root ∙ is.part.outermost;
    set = is.found.same.set ∙ is.set ∙ is.part.covers;
  };
  sides = subst (λ p. AreSidesAt shape.plans p sum.left sum.right number) (sym is.part.part)
      (sides-are shape.plans node.root node.left node.right number sum is.part.sides is.sides);
}

earlier-sum : (parts : List PlanTree) (before after : List Node) (own : Node) (place : ℕ) (sum : PartSum) (number : ℕ) → IsFoundOrAdded before after own place
    → IsPartSum parts before sum number → IsPartSum parts after sum number
earlier-sum parts before after own place sum number found is =
    let kept = found.kept sum.node is.node.exists in
    record {
      node = record {
        exists = omega (arith, is.node.exists, found.more);
        root = ap (λ (one : Node). one.root) kept ∙ is.node.root;
        set = ap (λ (one : Node). one.set) kept ∙ is.node.set;
      };
      sides = is.sides;
    }

pub sums-more : (shape : PartsShape) (before after : List Node) (sums : List PartSum) (node own : Node) (sum : PartSum) (number : ℕ) → ArePartSums shape before sums number
    → IsSumKnown shape before after node own sum number → ArePartSums shape after (sums ++ sum ∷ []) (number + 1)
sums-more shape before after sums node own sum number are is =
    let none : PartSum = record { node = 0; left = 0; right = 0 } in
    record {
      long = length-append sums (sum ∷ []) ∙ omega (arith, are.long);
      stand = all-stand shape before after node own sum number is are.stand;
      each = λ other less. elim (cases_lt other number) [
        | inl old ↦
            subst (λ one. IsPartSum shape.plans after one other) (sym (get_or-append sums (sum ∷ []) none other (omega (arith, old, are.long))))
            (earlier-sum shape.plans before after own sum.node (sum_at sums other) other is.found (are.each other old))
        | inr new ↦
            let last : length sums ≡ other = omega (arith, new, less, are.long) in
            let here : number ≡ other = omega (arith, new, less) in
            subst (λ k. IsPartSum shape.plans after (sum_at (sums ++ sum ∷ []) k) other) last
            (subst (λ one. IsPartSum shape.plans after one other) (sym (get_or-append_seam sums sum [] none))
            (subst (IsPartSum shape.plans after sum) here (this-sum shape before after node own sum number is)))
      ];
    }
