-- A plan that the entries of a set tell, by those that they tell of its sides.
use Rattle.std.proofs.Common.{◌≡◌, ◌∙◌, ℕ, ◌-◌, ◌^◌, ◌<◌, ◌≤◌, List, length, ap, sym, subst}
use Rattle.query_block.specs.Blocks.{BlockTree}
use Rattle.plan_tree.specs.Plans.{PlanTree, Nest, Hash, Merge, IndexLoop}
use Rattle.plan_tree.specs.declared.roots.Root.TheVariants as root
use Rattle.plan_space.specs.declared.entry.Entry.{Entry}
use Rattle.plan_space.specs.Table.{entry_at, AllStand, Follows, IsToldPlan}
use Rattle.plan_space.proofs.Filled.{covers-nest, covers-hash, covers-merge, covers-loop}

module _ (block : BlockTree) (table : List Entry) (standing : AllStand block table) (set : ℕ) (some : 1 ≤ set) (below : set < 2 ^ length block.relations) (left : ℕ)
    (l : PlanTree) (one : IsToldPlan table l left) where
  pub told-nest : (r : PlanTree) → (entry_at table set).root ≡ root.Nest left → IsToldPlan table r (set - left) → IsToldPlan table (Nest l r) set
  told-nest r is other = record {
    follows = (is ∙ ap root.Nest (sym one.covers), subst (Follows table l) (sym one.covers) one.follows, subst (λ n. Follows table r (set - n)) (sym one.covers) other.follows);
    covers = covers-nest block table standing set some below left _ _ is one.covers other.covers;
  }

  pub told-hash : (edge : ℕ) (r : PlanTree) → (entry_at table set).root ≡ root.Hash edge left → IsToldPlan table r (set - left) → IsToldPlan table (Hash edge l r) set
  told-hash edge r is other = record {
    follows = (is ∙ ap (root.Hash edge) (sym one.covers), subst (Follows table l) (sym one.covers) one.follows, subst (λ n. Follows table r (set - n)) (sym one.covers) other.follows);
    covers = covers-hash block table standing set some below edge left _ _ is one.covers other.covers;
  }

  pub told-merge : (edge : ℕ) (r : PlanTree) → (entry_at table set).root ≡ root.Merge edge left → IsToldPlan table r (set - left) → IsToldPlan table (Merge edge l r) set
  told-merge edge r is other = record {
    follows = (is ∙ ap (root.Merge edge) (sym one.covers), subst (Follows table l) (sym one.covers) one.follows, subst (λ n. Follows table r (set - n)) (sym one.covers) other.follows);
    covers = covers-merge block table standing set some below edge left _ _ is one.covers other.covers;
  }

  pub told-loop : (edge relation : ℕ) → (entry_at table set).root ≡ root.IndexLoop edge left relation → IsToldPlan table (IndexLoop edge l relation) set
  told-loop edge relation is = record {
    follows = (is ∙ ap (λ side. root.IndexLoop edge side relation) (sym one.covers), subst (Follows table l) (sym one.covers) one.follows);
    covers = covers-loop block table standing set some below edge left relation _ is one.covers;
  }
