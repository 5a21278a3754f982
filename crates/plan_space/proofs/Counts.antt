-- The counts of a costing's relations.
use Rattle.std.proofs.Common.{◌≡◌, ◌↔◌, ◌||◌, ℕ, zero, suc, ◌<◌, Bool, true, false, IsTrue, IsSome, All, if◌then◌else◌, List, [], ◌∷◌, length, map, nat_eq, refl, sym, subst, get_or, arith}
use Rattle.std.specs.List.{AllZip, list_any}
use Rattle.std.proofs.lemmas.List.Elements.{All-head, All-tail}
use Rattle.std.proofs.Math.ListN.{length-map}
use Rattle.query_block.specs.Blocks.{RelationTree, block_tree, relation_tree, relation_at}
use Rattle.plan_tree.specs.Enumerated.{IsIndexed, HasUsable, IsScannable}
use Rattle.cost_model.specs.declared.stats.RelationStats.{RelationStats}
use Rattle.cost_model.specs.Costing.{CostingShape, costing_tree, IsCosting}
use Rattle.cost_model.specs.declared.stats.IndexStats.{IndexStats}
use Rattle.cost_model.specs.Fits.{FitsIndex, FitsRelation}
use Rattle.cost_model.specs.Costs.{relation_stats, index_on, index_stats}

fits-at : (relations : List RelationTree) (stats : List RelationStats) (number : ℕ) (none : RelationTree) (empty : RelationStats) → AllZip FitsRelation relations stats → number < length relations
    → FitsRelation (get_or relations number none) (get_or stats number empty)
fits-at [] stats number none empty fits below = absurd (omega (arith, below))
fits-at (relation ∷ relations) [] number none empty fits below = absurd fits
fits-at (relation ∷ relations) (one ∷ more) zero none empty fits below = fits.0
fits-at (relation ∷ relations) (one ∷ more) (suc number) none empty fits below = fits-at relations more number none empty fits.1 (omega (arith, below))

index-at : (P : IndexStats → Type 0) (columns : List IndexStats) (column : ℕ) → All P columns → IsTrue (list_any (λ other. nat_eq other column) (map (λ index. index.column) columns))
    → P (index_on columns column) × ((index_on columns column).column ≡ column)
index-at P [] column all there = cc
index-at P (index ∷ more) column all there = by (nat_eq index.column column) refl there (index-at P more column (All-tail P index more all))
  where
    by : (t : Bool) → nat_eq index.column column ≡ t → (t || list_any (λ other. nat_eq other column) (map (λ index. index.column) more)) ≡ true
        → (IsTrue (list_any (λ other. nat_eq other column) (map (λ index. index.column) more)) → P (index_on more column) × ((index_on more column).column ≡ column))
        → P (if t then index else index_on more column) × ((if t then index else index_on more column).column ≡ column)
    by true is there rest = (All-head P index more all, grind arith)
    by false is there rest = rest there

-- an indexed column has a usable conjunct exactly where its matches are counted
pub counted : (costing : CostingShape) (relation column : ℕ) → IsCosting (costing_tree costing) → relation < length costing.block.relations
    → IsIndexed (relation_at (block_tree costing.block).relations relation) column
    → IsSome (index_stats costing.stats relation column).matches ↔ HasUsable (relation_at (block_tree costing.block).relations relation) column
counted costing relation column is below indexed =
    let tree = relation_at (block_tree costing.block).relations relation in
    let stats = relation_stats costing.stats relation in
    let fits : FitsRelation tree stats = fits-at (block_tree costing.block).relations costing.stats.relations relation _ _ is.stats.relations
    (omega (arith, below, length-map costing.block.relations relation_tree)) in
    let at = index-at (FitsIndex tree stats.rows) stats.columns column fits.columns (subst (λ all. IsTrue (list_any (λ other. nat_eq other column) all)) (sym fits.indexes) indexed) in
    subst (λ c. IsSome (index_stats costing.stats relation column).matches ↔ HasUsable tree c) at.1 at.0.counted

pub scannable : (costing : CostingShape) (relation column : ℕ) → IsCosting (costing_tree costing) → relation < length costing.block.relations
    → IsIndexed (relation_at (block_tree costing.block).relations relation) column
    → IsSome (index_stats costing.stats relation column).matches ↔ IsScannable (block_tree costing.block) relation column
scannable costing relation column is below indexed =
    let both = counted costing relation column is below indexed in (
      λ some. record { exists = omega (arith, below, length-map costing.block.relations relation_tree); indexed = indexed; usable = both.0 some },
      λ scan. both.1 scan.usable,
    )
