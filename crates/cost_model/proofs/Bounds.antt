-- Bounds on cards and costs: no pairs pass the limit of combinations, and a cost grows with the number of leaves alone.
use Rattle.std.proofs.Common.{◌≡◌, ℕ, zero, suc, ◌+◌, ◌*◌, ◌^◌, ◌<◌, ◌≤◌, cond, max, List, [], ◌∷◌, All, length, get_or, Fits, unwrap_or, None, Some, Option, nat_eq, refl, ap, sym, subst, ◌∙◌, inl, inr, arith}
use Rattle.std.specs.Prelude.{Bool, true, false, ◌&&◌, IfSome, IsFalse}
use Rattle.std.specs.Int.{w128}
use Rattle.std.specs.List.{AllZip}
use Rattle.std.proofs.Math.Nat.{mul-le-mul_left, mul-le-mul_right, mul_comm, mul_assoc, le-max_left, le-max_right}
use Rattle.std.proofs.lemmas.Nat.{mul-le}
use Rattle.std.proofs.lemmas.Bool.{cases_Bool}
use Rattle.std.proofs.lemmas.List.Elements.{All-nil, All-cons, All-head, All-tail}
use Rattle.sql_values.specs.Limits.{max_rows, max_product}
use Rattle.query_block.specs.Blocks.{RelationTree, BlockTree}
use Rattle.query_block.specs.Meaning.{RelationSet}
use Rattle.plan_tree.specs.Plans.{PlanTree, Scan, IndexScan, Nest, Hash, Merge, IndexLoop, leaves_of, has_leaf}
use Rattle.plan_tree.specs.Enumerated.{AreApart, IsSubPlan, column_on, edge_at}
use Rattle.plan_tree.specs.Work.{capped, scan_line, index_scan_line, nest_work, hash_work, merge_work, index_loop_work}
use Rattle.cost_model.specs.declared.stats.Stats.{Stats}
use Rattle.cost_model.specs.declared.stats.RelationStats.{RelationStats}
use Rattle.cost_model.specs.declared.stats.IndexStats.{IndexStats}
use Rattle.cost_model.specs.Fits.{FitsIndex, FitsRelation, FitsBlock, row_product}
use Rattle.cost_model.specs.Costing.{CostingTree, IsCosting}
use Rattle.cost_model.specs.AtPoint.{stats_at}
use Rattle.cost_model.specs.Cards.{kept_product, card_of}
use Rattle.cost_model.specs.Costs.{relation_stats, index_on, index_stats, candidate_card, cost_of}
use Rattle.cost_model.specs.Few.{IsFewIndex, AreFew}
use Rattle.plan_tree.proofs.Digits.{bits-few}
use Rattle.plan_tree.proofs.LeafSets.{apart-sets, alone, size_of, size-few, leaf-size, both-sizes}
use Rattle.cost_model.proofs.AtPoint.{fits-at}
use Rattle.cost_model.proofs.Cards.{card-few, candidates-few}

-- ---- products of counts

abbrev pub HasFewKept : RelationStats → Type 0
HasFewKept stats = stats.kept ≤ stats.rows

pub few-kept : (relations : List RelationTree) (stats : List RelationStats) → AllZip FitsRelation relations stats → All HasFewKept stats
few-kept [] [] fits = All-nil HasFewKept
few-kept [] (one ∷ more) fits = absurd fits
few-kept (relation ∷ relations) [] fits = absurd fits
few-kept (relation ∷ relations) (one ∷ more) fits = All-cons HasFewKept one more fits.0.kept (few-kept relations more fits.1)

factor-few : (b : Bool) (kept rows : ℕ) → kept ≤ rows → cond b kept 1 ≤ max 1 rows
factor-few true kept rows few = omega (arith, few, le-max_right 1 rows)
factor-few false kept rows few = le-max_left 1 rows

pub kept-few : (set : RelationSet) (number : ℕ) (stats : List RelationStats) → All HasFewKept stats → kept_product set number stats ≤ row_product stats
kept-few set number [] few = omega arith
kept-few set number (one ∷ more) few =
    mul-le _ _ _ _ (factor-few (set number) one.kept one.rows (All-head HasFewKept one more few)) (kept-few set (number + 1) more (All-tail HasFewKept one more few))

-- two sets have no relation in common
abbrev ShareNone : RelationSet → RelationSet → Type 0
ShareNone set other = (relation : ℕ) → IsFalse (set relation && other relation)

-- at most one of two sets without a common relation has it
factors-few : (a b : Bool) (kept rows : ℕ) → (a && b) ≡ false → kept ≤ rows → cond a kept 1 * cond b kept 1 ≤ max 1 rows
factors-few true true kept rows apart few = absurd (grind (arith, apart))
factors-few true false kept rows apart few = omega (arith, few, le-max_right 1 rows)
factors-few false true kept rows apart few = omega (arith, few, le-max_right 1 rows)
factors-few false false kept rows apart few = omega (arith, le-max_left 1 rows)

exchange : (a b c d : ℕ) → a * b * (c * d) ≡ a * c * (b * d)
exchange a b c d = mul_assoc a b (c * d) ∙ ap (λ n. a * n) (sym (mul_assoc b c d) ∙ ap (λ n. n * d) (mul_comm b c) ∙ mul_assoc c b d) ∙ sym (mul_assoc a c (b * d))

pub pairs-few : (set other : RelationSet) (number : ℕ) (stats : List RelationStats) → ShareNone set other → All HasFewKept stats
    → kept_product set number stats * kept_product other number stats ≤ row_product stats
pairs-few set other number [] apart few = omega arith
pairs-few set other number (one ∷ more) apart few =
    let first = factors-few (set number) (other number) one.kept one.rows (apart number) (All-head HasFewKept one more few) in
    let rest = pairs-few set other (number + 1) more apart (All-tail HasFewKept one more few) in
    let same = exchange (cond (set number) one.kept 1) (kept_product set (number + 1) more) (cond (other number) one.kept 1) (kept_product other (number + 1) more) in
    subst (λ n. n ≤ row_product (one ∷ more)) (sym same) (mul-le _ _ _ _ first rest)

-- nor do the rows of a table that isn't in the set make too many pairs with it
pub rows-few : (set : RelationSet) (number place : ℕ) (stats : List RelationStats) (none : RelationStats) → set (number + place) ≡ false → place < length stats → All HasFewKept stats
    → kept_product set number stats * (get_or stats place none).rows ≤ row_product stats
rows-few set number place [] none out below few = absurd (omega (arith, below))
rows-few set number zero (one ∷ more) none out below few =
    let here : set number ≡ false = ap set (omega arith) ∙ out in
    let rest = kept-few set (number + 1) more (All-tail HasFewKept one more few) in
    let product : kept_product set number (one ∷ more) ≡ kept_product set (number + 1) more = rw here (omega arith) in
    let same : kept_product set number (one ∷ more) * one.rows ≡ one.rows * kept_product set (number + 1) more = ap (λ n. n * one.rows) product ∙ mul_comm _ one.rows in
    subst (λ n. n ≤ row_product (one ∷ more)) (sym same) (mul-le _ _ _ _ (le-max_right 1 one.rows) rest)
rows-few set number (suc place) (one ∷ more) none out below few =
    let rest = rows-few set (number + 1) place more none (ap set (omega arith) ∙ out) (omega (arith, below)) (All-tail HasFewKept one more few) in
    let first = factor-few (set number) one.kept one.rows (All-head HasFewKept one more few) in
    subst (λ n. n ≤ row_product (one ∷ more)) (sym (mul_assoc (cond (set number) one.kept 1) (kept_product set (number + 1) more) (get_or more place none).rows))
    (mul-le _ _ _ _ first rest)

-- ---- cards

pub fits-kept : (costing : CostingTree) (point : List ℕ) → IsCosting costing → All HasFewKept (stats_at costing point).relations
fits-kept costing point is = few-kept costing.block.relations (stats_at costing point).relations (fits-at costing point is).relations

-- the product of what the filters of a set's relations keep
pub product-few : (costing : CostingTree) (set : RelationSet) (point : List ℕ) → IsCosting costing → kept_product set 0 (stats_at costing point).relations ≤ max_product
product-few costing set point is =
    omega (arith, kept-few set 0 (stats_at costing point).relations (fits-kept costing point is), (fits-at costing point is).product)

pub card-below : (costing : CostingTree) (set : RelationSet) (point : List ℕ) → IsCosting costing → card_of costing set point ≤ max_product
card-below costing set point is = omega (arith, card-few costing set point, product-few costing set point is)

pub pairs-below : (costing : CostingTree) (set other : RelationSet) (point : List ℕ) → IsCosting costing → ShareNone set other
    → card_of costing set point * card_of costing other point ≤ max_product
pairs-below costing set other point is apart =
    let cards = mul-le _ _ _ _ (card-few costing set point) (card-few costing other point) in
    omega (arith, cards, pairs-few set other 0 (stats_at costing point).relations apart (fits-kept costing point is), (fits-at costing point is).product)

length-fits : (relations : List RelationTree) (stats : List RelationStats) → AllZip FitsRelation relations stats → length stats ≡ length relations
length-fits [] [] fits = refl
length-fits [] (one ∷ more) fits = absurd fits
length-fits (relation ∷ relations) [] fits = absurd fits
length-fits (relation ∷ relations) (one ∷ more) fits = ap suc (length-fits relations more fits.1)

pub stats-long : (costing : CostingTree) → IsCosting costing → length costing.stats.relations ≡ length costing.block.relations
stats-long costing is = length-fits costing.block.relations costing.stats.relations is.stats.relations

pub stats-at-long : (costing : CostingTree) (point : List ℕ) → IsCosting costing → length (stats_at costing point).relations ≡ length costing.block.relations
stats-at-long costing point is = length-fits costing.block.relations (stats_at costing point).relations (fits-at costing point is).relations

pub loop-pairs-below : (costing : CostingTree) (set : RelationSet) (relation : ℕ) (point : List ℕ) → IsCosting costing → set relation ≡ false → relation < length costing.block.relations
    → card_of costing set point * (relation_stats (stats_at costing point) relation).rows ≤ max_product
loop-pairs-below costing set relation point is out below =
    let stats = (stats_at costing point).relations in
    let none : RelationStats = record { rows = 0; pages = 0; kept = 0; columns = [] } in
    let rows = (relation_stats (stats_at costing point) relation).rows in
    let there : relation < length stats = omega (arith, below, stats-at-long costing point is) in
    let product : kept_product set 0 stats * rows ≤ row_product stats =
    rows-few set 0 relation stats none (ap set (omega arith) ∙ out) there (fits-kept costing point is) in
    let cards : card_of costing set point * rows ≤ kept_product set 0 stats * rows = mul-le-mul_right rows (card-few costing set point) in
    omega (arith, cards, product, (fits-at costing point is).product)

pub one-times : (n : ℕ) → 1 * n ≡ n
one-times n = omega arith

-- ---- the nodes of a plan, each of which costs at most 2^108 by itself

pub scan-few : (stats : RelationStats) (pages rows out : ℕ) → AreFew stats → pages ≡ stats.pages → rows ≡ stats.rows → out ≤ max_product → scan_line pages rows out ≤ 2 ^ 108
scan-few stats pages rows out few pages-is rows-is out-few = omega (arith, few.rows, few.pages, pages-is, rows-is, out-few)

pub index-scan-few : (height matches out : ℕ) → height ≤ 4 → matches ≤ max_rows → out ≤ max_product → index_scan_line height matches out ≤ 2 ^ 108
index-scan-few height matches out low few out-few = omega (arith, low, few, out-few)

pub nest-few : (l r out : ℕ) → r ≤ max_product → l * r ≤ max_product → out ≤ max_product → nest_work l r out ≤ 2 ^ 108
nest-few l r out right pairs few = omega (arith, right, pairs, few)

pub hash-few : (l r cand out : ℕ) → l ≤ max_product → r ≤ max_product → cand ≤ max_product → out ≤ max_product → hash_work l r cand out ≤ 2 ^ 108
hash-few l r cand out left right pairs few = omega (arith, left, right, pairs, few)

pub merge-few : (l r cand out : ℕ) → l ≤ max_product → r ≤ max_product → cand ≤ max_product → out ≤ max_product → merge_work l r cand out ≤ 2 ^ 108
merge-few l r cand out left right pairs few =
    omega (arith, left, right, pairs, few, mul-le-mul_left l (bits-few l left), mul-le-mul_left r (bits-few r right))

pub loop-few : (height l cand out : ℕ) → height ≤ 4 → l ≤ max_product → cand ≤ max_product → out ≤ max_product → index_loop_work height l cand out ≤ 2 ^ 108
loop-few height l cand out low left pairs few =
    omega (arith, left, pairs, few, mul-le (2 * height) l 8 max_product (omega (arith, low)) left)

-- 128 bits have room for such a cost
pub not-capped : (cost work : ℕ) → cost ≡ capped work → work ≤ 2 ^ 108 → cost ≡ work
not-capped cost work is few = omega (arith, is, few)

pub pairs-in-room : (pairs : ℕ) → pairs ≤ max_product → Fits w128 pairs
pairs-in-room pairs few = record { fits = omega (arith, few) }

-- ---- the counts of one relation

few-matches : (matches : Option ℕ) (rows : ℕ) → IfSome matches (λ n. n ≤ rows) → rows ≤ max_rows → unwrap_or matches 0 ≤ max_rows
few-matches None rows few all = omega arith
few-matches (Some n) rows few all = omega (arith, few, all)

few-indexes : (relation : RelationTree) (rows : ℕ) (columns : List IndexStats) → All (FitsIndex relation rows) columns → rows ≤ max_rows → All IsFewIndex columns
few-indexes relation rows [] fits all = All-nil IsFewIndex
few-indexes relation rows (index ∷ more) fits all =
    let first = All-head (FitsIndex relation rows) index more fits in
    All-cons IsFewIndex index more (record { height = first.low; matches = few-matches index.matches rows first.matches all })
    (few-indexes relation rows more (All-tail (FitsIndex relation rows) index more fits) all)

pub index-on-few : (columns : List IndexStats) (column : ℕ) → All IsFewIndex columns → IsFewIndex (index_on columns column)
index-on-few [] column few = record { height = omega arith; matches = omega arith }
index-on-few (index ∷ more) column few =
    elim (cases_Bool (nat_eq index.column column)) [
      | inl here ↦ rw here (All-head IsFewIndex index more few)
      | inr other ↦ rw other (index-on-few more column (All-tail IsFewIndex index more few))
    ]

-- the counts of a relation of the block, or of none
stats-few : (relations : List RelationTree) (stats : List RelationStats) (number : ℕ) (none : RelationStats) → AllZip FitsRelation relations stats → AreFew none → AreFew (get_or stats number none)
stats-few [] [] number none fits empty = empty
stats-few [] (one ∷ more) number none fits empty = absurd fits
stats-few (relation ∷ relations) [] number none fits empty = absurd fits
stats-few (relation ∷ relations) (one ∷ more) zero none fits empty = record {
  rows = fits.0.rows;
  pages = omega (arith, fits.0.rows, fits.0.pages);
  columns = few-indexes relation one.rows one.columns fits.0.columns fits.0.rows;
}
stats-few (relation ∷ relations) (one ∷ more) (suc number) none fits empty = stats-few relations more number none fits.1 empty

are-few : (block : BlockTree) (stats : Stats) (relation : ℕ) → FitsBlock block stats → AreFew (relation_stats stats relation)
are-few block stats relation fits =
    stats-few block.relations stats.relations relation (record { rows = 0; pages = 0; kept = 0; columns = [] }) fits.relations
    (record { rows = omega arith; pages = omega arith; columns = All-nil IsFewIndex })

pub relation-few : (costing : CostingTree) (relation : ℕ) → IsCosting costing → AreFew (relation_stats costing.stats relation)
relation-few costing relation is = are-few costing.block costing.stats relation is.stats

-- at a point too
relation-few-at : (costing : CostingTree) (point : List ℕ) (relation : ℕ) → IsCosting costing → AreFew (relation_stats (stats_at costing point) relation)
relation-few-at costing point relation is = are-few costing.block (stats_at costing point) relation (fits-at costing point is)

pub index-few-at : (costing : CostingTree) (point : List ℕ) (relation column : ℕ) → IsCosting costing → IsFewIndex (index_stats (stats_at costing point) relation column)
index-few-at costing point relation column is =
    index-on-few (relation_stats (stats_at costing point) relation).columns column (relation-few-at costing point relation is).columns

-- ---- costs

-- a plan of n leaves has n - 1 joins
abbrev IsBounded : CostingTree → List ℕ → PlanTree → Type 0
IsBounded costing point p =
    cost_of costing p point + 2 ^ 108 ≤ 2 * 2 ^ 108 * size_of (has_leaf p) 0 (length costing.block.relations)

-- a join of two sides that are apart, whose own work is bounded by its sides, its pairs, its candidates and its rows
join-bounded : (costing : CostingTree) (point : List ℕ) → IsCosting costing → (edge : ℕ) (left right : PlanTree) → AreApart left right → (work : (l r cand out : ℕ) → ℕ)
    → ((l r cand out : ℕ) → l ≤ max_product → r ≤ max_product → l * r ≤ max_product → cand ≤ max_product → out ≤ max_product → work l r cand out ≤ 2 ^ 108)
    → IsBounded costing point left → IsBounded costing point right
    → cost_of costing left point + cost_of costing right point
    + work (card_of costing (has_leaf left) point) (card_of costing (has_leaf right) point)
    (candidate_card costing edge point (card_of costing (has_leaf left) point * card_of costing (has_leaf right) point)) (card_of costing (has_leaf (Nest left right)) point)
    + 2 ^ 108 ≤ 2 * 2 ^ 108 * size_of (has_leaf (Nest left right)) 0 (length costing.block.relations)
join-bounded costing point is edge left right apart work few one other =
    let l = card_of costing (has_leaf left) point in
    let r = card_of costing (has_leaf right) point in
    let cand = candidate_card costing edge point (l * r) in
    let out = card_of costing (has_leaf (Nest left right)) point in
    let pairs = pairs-below costing (has_leaf left) (has_leaf right) point is (apart-sets left right apart) in
    let own = few l r cand out (card-below costing (has_leaf left) point is) (card-below costing (has_leaf right) point is) pairs
    (omega (arith, candidates-few costing.grid point edge (l * r), pairs)) (card-below costing (has_leaf (Nest left right)) point is) in
    omega (
      arith,
      own,
      one,
      other,
      both-sizes (length costing.block.relations) (leaves_of left) (leaves_of right) (apart-sets left right apart),
    )

bounded : (costing : CostingTree) (point : List ℕ) → IsCosting costing → (p : PlanTree) → IsSubPlan costing.block p → IsBounded costing point p
bounded costing point is (Scan relation) plan =
    let few = relation-few-at costing point relation is in
    let card = card-below costing (has_leaf (Scan relation)) point is in
    omega (arith, few.rows, few.pages, card, leaf-size (length costing.block.relations) relation plan)
bounded costing point is (IndexScan relation column) plan =
    let few = index-few-at costing point relation column is in
    let card = card-below costing (has_leaf (IndexScan relation column)) point is in
    omega (arith, few.height, few.matches, card, leaf-size (length costing.block.relations) relation plan.exists)
bounded costing point is (Nest left right) plan =
    join-bounded costing point is 0 left right plan.2 (λ l r cand out. nest_work l r out) (λ l r cand out some few pairs most last. nest-few l r out few pairs last)
    (bounded costing point is left plan.0) (bounded costing point is right plan.1)
bounded costing point is (Hash edge left right) plan =
    join-bounded costing point is edge left right plan.2 hash_work (λ l r cand out some few pairs most last. hash-few l r cand out some few most last)
    (bounded costing point is left plan.0) (bounded costing point is right plan.1)
bounded costing point is (Merge edge left right) plan =
    join-bounded costing point is edge left right plan.2 merge_work (λ l r cand out some few pairs most last. merge-few l r cand out some few most last)
    (bounded costing point is left plan.0) (bounded costing point is right plan.1)
bounded costing point is (IndexLoop edge left relation) plan =
    let l = card_of costing (has_leaf left) point in
    let rows = (relation_stats (stats_at costing point) relation).rows in
    let index = index_stats (stats_at costing point) relation (column_on (edge_at costing.block.edges edge) relation) in
    let pairs = loop-pairs-below costing (has_leaf left) relation point is plan.1.apart plan.1.exists in
    let own = loop-few index.height l (candidate_card costing edge point (l * rows)) (card_of costing (has_leaf (IndexLoop edge left relation)) point)
    (index-few-at costing point relation (column_on (edge_at costing.block.edges edge) relation) is).height (card-below costing (has_leaf left) point is)
    (omega (arith, candidates-few costing.grid point edge (l * rows), pairs)) (card-below costing (has_leaf (IndexLoop edge left relation)) point is) in
    omega (
      arith,
      own,
      bounded costing point is left plan.0,
      leaf-size (length costing.block.relations) relation plan.1.exists,
      both-sizes (length costing.block.relations) (leaves_of left) (relation ∷ []) (alone left relation plan.1.apart),
    )

pub cost-below : (costing : CostingTree) (p : PlanTree) (point : List ℕ) → IsCosting costing → IsSubPlan costing.block p → cost_of costing p point < 2 ^ 113
cost-below costing p point is plan =
    omega (arith, bounded costing point is p plan, size-few (has_leaf p) 0 (length costing.block.relations), is.block.few)
