-- The left side of each outermost node of a set is a smaller set, and so is what it leaves.
use Rattle.std.proofs.Common.{◌≡◌, ℕ, Bool, true, All, List, [], ◌∷◌, filter, arith}
use Rattle.std.proofs.lemmas.Grind.{common_steps}
use Rattle.std.proofs.lemmas.List.Elements.{All-nil, All-cons}
use Rattle.query_block.specs.Blocks.{BlockTree}
use Rattle.plan_tree.specs.declared.roots.Root.{Root}
use Rattle.plan_tree.specs.declared.roots.Root.TheVariants as root
use Rattle.plan_tree.specs.Roots.{Stands, stands}
use Rattle.plan_tree.specs.AllPlans.{roots_of}
use Rattle.plan_tree.specs.Listing.{HasLeftOf}
use Rattle.plan_tree.proofs.RootLists.{tried_nodes, of-stands}

all-filter : {X : Type 0} (P : X → Type 0) (test : X → Bool) (xs : List X) → ((x : X) → test x ≡ true → P x) → All P (filter test xs)
all-filter P test [] has = All-nil P
all-filter P test (x ∷ xs) has = grind (arith, common_steps, All-cons, all-filter P test xs has)

left-of : (block : BlockTree) (set : ℕ) (node : Root) → Stands block node set → HasLeftOf node set
left-of block set (root.Scan relation) is = tt
left-of block set (root.IndexScan relation column) is = tt
left-of block set (root.Nest left) split = (split.some, split.less)
left-of block set (root.Hash edge left) (split, crossed) = (split.some, split.less)
left-of block set (root.Merge edge left) (split, crossed) = (split.some, split.less)
left-of block set (root.IndexLoop edge left relation) (split, crossed, look) = (split.some, split.less)

pub left-sides : (block : BlockTree) (set : ℕ) → All (λ node. HasLeftOf node set) (roots_of block set)
unfolding roots_of
left-sides block set =
    all-filter (λ node. HasLeftOf node set) (stands block set) (tried_nodes block set) (λ node is. left-of block set node (of-stands block set node is))
