-- A code for plans as trees, by which a proof tells them apart: the outermost nodes of all parts, each behind its sides.
use Rattle.std.specs.Prelude.{◌≡◌, List, [], ◌∷◌, refl}
use Rattle.std.proofs.Common.{◌∙◌}
use Rattle.std.specs.Coded.{Coded, code_by, coded_list}
use Rattle.plan_tree.specs.contracts.roots.Root as contract
use Rattle.plan_tree.specs.declared.roots.Root.{Root}
use Rattle.plan_tree.specs.declared.roots.Root.TheVariants as root
use Rattle.plan_tree.specs.Plans.{PlanTree, Scan, IndexScan, Nest, Hash, Merge, IndexLoop}

-- the nodes of a plan, before some more
abbrev pub nodes_before : PlanTree → (rest : List Root) → List Root
nodes_before (Scan relation) rest = root.Scan relation ∷ rest
nodes_before (IndexScan relation column) rest = root.IndexScan relation column ∷ rest
nodes_before (Nest left right) rest = nodes_before left (nodes_before right (root.Nest 0 ∷ rest))
nodes_before (Hash edge left right) rest = nodes_before left (nodes_before right (root.Hash edge 0 ∷ rest))
nodes_before (Merge edge left right) rest = nodes_before left (nodes_before right (root.Merge edge 0 ∷ rest))
nodes_before (IndexLoop edge left relation) rest = nodes_before left (root.IndexLoop edge 0 relation ∷ rest)

abbrev pub last_known : List PlanTree → PlanTree
last_known [] = Scan 0
last_known (p ∷ more) = p

abbrev pub known_before : List PlanTree → List PlanTree
known_before [] = []
known_before (p ∷ more) = more

-- what is known after one more node, the last one first: a node takes its sides away
abbrev pub with_node : Root → List PlanTree → List PlanTree
with_node (root.Scan relation) known = Scan relation ∷ known
with_node (root.IndexScan relation column) known = IndexScan relation column ∷ known
with_node (root.Nest set) known = Nest (last_known (known_before known)) (last_known known) ∷ known_before (known_before known)
with_node (root.Hash edge set) known = Hash edge (last_known (known_before known)) (last_known known) ∷ known_before (known_before known)
with_node (root.Merge edge set) known = Merge edge (last_known (known_before known)) (last_known known) ∷ known_before (known_before known)
with_node (root.IndexLoop edge set relation) known = IndexLoop edge (last_known known) relation ∷ known_before known

abbrev pub with_nodes : List PlanTree → List Root → List PlanTree
with_nodes known [] = known
with_nodes known (node ∷ more) = with_nodes (with_node node known) more

pub with_nodes-nodes_before : (p : PlanTree) (known : List PlanTree) (rest : List Root) → with_nodes known (nodes_before p rest) ≡ with_nodes (p ∷ known) rest
with_nodes-nodes_before (Scan r) known rest = refl
with_nodes-nodes_before (IndexScan r c) known rest = refl
with_nodes-nodes_before (Nest l r) known rest = with_nodes-nodes_before l known (nodes_before r (root.Nest 0 ∷ rest)) ∙ with_nodes-nodes_before r (l ∷ known) (root.Nest 0 ∷ rest)
with_nodes-nodes_before (Hash e l r) known rest = with_nodes-nodes_before l known (nodes_before r (root.Hash e 0 ∷ rest)) ∙ with_nodes-nodes_before r (l ∷ known) (root.Hash e 0 ∷ rest)
with_nodes-nodes_before (Merge e l r) known rest = with_nodes-nodes_before l known (nodes_before r (root.Merge e 0 ∷ rest)) ∙ with_nodes-nodes_before r (l ∷ known) (root.Merge e 0 ∷ rest)
with_nodes-nodes_before (IndexLoop e l r) known rest = with_nodes-nodes_before l known (root.IndexLoop e 0 r ∷ rest)

abbrev pub plan_tree_code : Coded PlanTree
plan_tree_code =
    code_by (List Root) (coded_list contract.the_row.coded) (λ p. nodes_before p []) (λ nodes. last_known (with_nodes [] nodes))
    (λ p i. last_known (with_nodes-nodes_before p [] [] i))
