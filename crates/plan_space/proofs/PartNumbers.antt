-- Parts as numbers: a part keeps its number while others are added, and the parts of two equal nodes are the same.
use Rattle.std.proofs.Common.{◌≡◌, inl, inr, ℕ, ◌+◌, ◌<◌, ◌≤◌, List, [], ◌∷◌, ◌++◌, length, take, refl, sym, ap, ◌∙◌, subst, arith}
use Rattle.std.proofs.Math.ListN.{length-append, get_or-append}
use Rattle.std.proofs.Math.Seq.{get_or-append_seam}
use Rattle.std.proofs.lemmas.Bool.{cases_lt}
use Rattle.std.proofs.lemmas.List.{get_or-take, length-take-le, take-append-le, take_all}
use Rattle.query_block.specs.Blocks.{BlockTree}
use Rattle.plan_tree.specs.Plans.{PlanTree, Scan, Nest, Hash, Merge, IndexLoop, covers_of}
use Rattle.plan_tree.specs.declared.roots.Root.{Root}
use Rattle.plan_tree.specs.declared.roots.Root.TheVariants as root
use Rattle.plan_tree.specs.Roots.{root_of}
use Rattle.plan_space.specs.declared.node.Node.{Node}
use Rattle.plan_space.specs.Parts.{PartsShape, nth_plan, plan_over, parts_behind, AreSidesBelow, IsNodeOver, node_at, IsSameNode, IsNodeAt, AreNodes, KeepsParts}

-- the node of a part is its outermost one
pub root-of-part : (block : BlockTree) (nodes : List Node) (number : ℕ) → AreNodes block nodes → number < length nodes
    → (node_at nodes number).root ≡ root_of (nth_plan (parts_behind [] nodes) number)
root-of-part block nodes number all less =
    let is = all number less in
    is.over.outermost ∙ ap root_of (sym is.part)

-- ---- one more part

parts-more-behind : (before : List PlanTree) (nodes : List Node) (node : Node)
    → parts_behind before (nodes ++ node ∷ []) ≡ parts_behind before nodes ++ plan_over (parts_behind before nodes) node.root node.left node.right ∷ []
parts-more-behind before [] node = refl
parts-more-behind before (first ∷ more) node = parts-more-behind (before ++ plan_over before first.root first.left first.right ∷ []) more node

pub parts-more : (nodes : List Node) (node : Node) → parts_behind [] (nodes ++ node ∷ []) ≡ parts_behind [] nodes ++ plan_over (parts_behind [] nodes) node.root node.left node.right ∷ []
parts-more nodes node = parts-more-behind [] nodes node

parts-long-behind : (before : List PlanTree) (nodes : List Node) → length (parts_behind before nodes) ≡ length before + length nodes
parts-long-behind before [] = omega arith
parts-long-behind before (node ∷ more) =
    let one = plan_over before node.root node.left node.right ∷ [] in
    omega (arith, parts-long-behind (before ++ one) more, length-append before one)

pub parts-long : (nodes : List Node) → length (parts_behind [] nodes) ≡ length nodes
parts-long nodes = parts-long-behind [] nodes ∙ omega arith

pub keeps-more : (before after : PartsShape) (p : PlanTree) → after.block ≡ before.block → after.plans ≡ before.plans ++ p ∷ [] → KeepsParts before after
keeps-more before after p block more = record {
  block = block;
  more = omega (arith, ap length more, length-append before.plans (p ∷ []));
  kept = λ number less. ap (λ plans. nth_plan plans number) more ∙ get_or-append before.plans (p ∷ []) (Scan 0) number less;
}

-- the part at the end
pub last-part : (nodes : List Node) (node : Node) → nth_plan (parts_behind [] (nodes ++ node ∷ [])) (length nodes) ≡ plan_over (parts_behind [] nodes) node.root node.left node.right
last-part nodes node =
    let p = plan_over (parts_behind [] nodes) node.root node.left node.right in
    (λ i. nth_plan (parts-more nodes node i) (sym (parts-long nodes) i)) ∙ get_or-append_seam (parts_behind [] nodes) p [] (Scan 0)

-- a node over some parts is one of all parts
at-more : (block : BlockTree) (nodes : List Node) (node : Node) → IsNodeOver block (parts_behind [] nodes) node.root node.set node.left node.right
    → IsNodeAt block (parts_behind [] nodes ++ plan_over (parts_behind [] nodes) node.root node.left node.right ∷ []) node (length nodes)
at-more block nodes node over =
    let parts = parts_behind [] nodes in
    let p = plan_over parts node.root node.left node.right in
    let before : take (length nodes) (parts ++ p ∷ []) ≡ parts =
    take-append-le (length nodes) parts (p ∷ []) (omega (arith, parts-long nodes)) ∙ take_all (length nodes) parts (omega (arith, parts-long nodes)) in
    record {
      over = subst (λ all. IsNodeOver block all node.root node.set node.left node.right) (sym before) over;
      part = ap (nth_plan (parts ++ p ∷ [])) (sym (parts-long nodes)) ∙ get_or-append_seam parts p [] (Scan 0) ∙ ap (λ all. plan_over all node.root node.left node.right) (sym before);
    }

at-kept : (block : BlockTree) (parts : List PlanTree) (p : PlanTree) (node : Node) (number : ℕ) → number < length parts → IsNodeAt block parts node number
    → IsNodeAt block (parts ++ p ∷ []) node number
at-kept block parts p node number less is =
    let before = take-append-le number parts (p ∷ []) (omega (arith, less)) in
    record {
      over = subst (λ all. IsNodeOver block all node.root node.set node.left node.right) (sym before) is.over;
      part = get_or-append parts (p ∷ []) (Scan 0) number less ∙ is.part ∙ ap (λ all. plan_over all node.root node.left node.right) (sym before);
    }

pub nodes-more : (block : BlockTree) (nodes : List Node) (node : Node) → AreNodes block nodes → IsNodeOver block (parts_behind [] nodes) node.root node.set node.left node.right
    → AreNodes block (nodes ++ node ∷ [])
nodes-more block nodes node all over number less =
    let none : Node = record { root = root.Scan 0; set = 0; left = 0; right = 0; earlier = 0 } in
    let long = length-append nodes (node ∷ []) in
    let p = plan_over (parts_behind [] nodes) node.root node.left node.right in
    let there : IsNodeAt block (parts_behind [] nodes ++ p ∷ []) (node_at (nodes ++ node ∷ []) number) number =
    elim (cases_lt number (length nodes)) [
      | inl old ↦
          subst (λ one. IsNodeAt block (parts_behind [] nodes ++ p ∷ []) one number) (sym (get_or-append nodes (node ∷ []) none number old))
          (at-kept block (parts_behind [] nodes) p (node_at nodes number) number (omega (arith, old, parts-long nodes)) (all number old))
      | inr new ↦
          let last : length nodes ≡ number = omega (arith, new, less, long) in
          subst (λ k. IsNodeAt block (parts_behind [] nodes ++ p ∷ []) (node_at (nodes ++ node ∷ []) k) k) last
          (subst (λ one. IsNodeAt block (parts_behind [] nodes ++ p ∷ []) one (length nodes)) (sym (get_or-append_seam nodes node [] none)) (at-more block nodes node over))
    ] in
    subst (λ parts. IsNodeAt block parts (node_at (nodes ++ node ∷ []) number) number) (sym (parts-more nodes node)) there

-- ---- the part of a node

-- the sides are parts before it
over-all : (parts : List PlanTree) (node : Root) (left right number : ℕ) → number ≤ length parts → AreSidesBelow node left right (length (take number parts))
    → plan_over (take number parts) node left right ≡ plan_over parts node left right
over-all parts (root.Scan r) left right number few below = refl
over-all parts (root.IndexScan r c) left right number few below = refl
over-all parts (root.Nest s) left right number few (a, b) =
    let long = length-take-le number parts few in
    λ i. Nest (get_or-take number parts left (Scan 0) (omega (arith, a, long)) i) (get_or-take number parts right (Scan 0) (omega (arith, b, long)) i)
over-all parts (root.Hash e s) left right number few (a, b) =
    let long = length-take-le number parts few in
    λ i. Hash e (get_or-take number parts left (Scan 0) (omega (arith, a, long)) i) (get_or-take number parts right (Scan 0) (omega (arith, b, long)) i)
over-all parts (root.Merge e s) left right number few (a, b) =
    let long = length-take-le number parts few in
    λ i. Merge e (get_or-take number parts left (Scan 0) (omega (arith, a, long)) i) (get_or-take number parts right (Scan 0) (omega (arith, b, long)) i)
over-all parts (root.IndexLoop e s r) left right number few a =
    let long = length-take-le number parts few in
    λ i. IndexLoop e (get_or-take number parts left (Scan 0) (omega (arith, a, long)) i) r

pub part-of : (block : BlockTree) (nodes : List Node) (number : ℕ) → AreNodes block nodes → number < length nodes
    → let node = node_at nodes number in nth_plan (parts_behind [] nodes) number ≡ plan_over (parts_behind [] nodes) node.root node.left node.right
part-of block nodes number all less =
    let is = all number less in
    let node = node_at nodes number in
    is.part ∙ over-all (parts_behind [] nodes) node.root node.left node.right number (omega (arith, less, parts-long nodes)) is.over.sides

pub part-of-same : (block : BlockTree) (nodes : List Node) (number : ℕ) (node : Node) → AreNodes block nodes → number < length nodes
    → IsSameNode (node_at nodes number) node → nth_plan (parts_behind [] nodes) number ≡ plan_over (parts_behind [] nodes) node.root node.left node.right
part-of-same block nodes number node all less same =
    part-of block nodes number all less ∙ (λ i. plan_over (parts_behind [] nodes) (same.root i) (same.left i) (same.right i))

pub set-of-part : (block : BlockTree) (nodes : List Node) (number : ℕ) → AreNodes block nodes → number < length nodes
    → (node_at nodes number).set ≡ covers_of (nth_plan (parts_behind [] nodes) number)
set-of-part block nodes number all less = let is = all number less in is.over.covers ∙ ap covers_of (sym is.part)
