-- Exact counts fit their block.
use Rattle.std.proofs.Common.{◌≡◌, ◌↔◌, ℕ, zero, suc, ◌+◌, ◌-◌, ◌*◌, ◌/◌, ◌<◌, ◌≤◌, max, List, [], ◌∷◌, All, length, map, count_by, cond, ltb, Some, None, refl, ap, subst, inl, inr, arith}
use Rattle.std.specs.Prelude.{Bool, true, false, not, IsTrue, IsSome, IfSome}
use Rattle.std.specs.List.{AllZip, list_any}
use Rattle.std.proofs.Math.Nat.{div-le_of_le-mul, mul-suc, mul-le-mul_right, mul_assoc}
use Rattle.std.proofs.lemmas.Nat.{le-div, div_below}
use Rattle.std.proofs.lemmas.Bool.{cases_Bool}
use Rattle.std.proofs.lemmas.Bool.Decides.{nat_tests}
use Rattle.std.proofs.lemmas.List.Elements.{All-nil, All-cons, All-head, All-tail}
use Rattle.std.proofs.lemmas.List.Sums.{count_by-le-length}
use Rattle.sql_values.specs.Limits.{max_rows, max_product}
use Rattle.sql_values.specs.Stored.{StoredTable}
use Rattle.heap_pages.specs.Rows.{pages_of, rows_per_page}
use Rattle.query_block.specs.declared.kind.Kind.{Kind}
use Rattle.query_block.specs.Blocks.{RelationTree, BlockTree, IsRelation, IsBlock}
use Rattle.sql_values.specs.Truth.{is_null}
use Rattle.query_block.specs.Truth.{value_at}
use Rattle.plan_tree.specs.Usable.{is_usable}
use Rattle.plan_tree.specs.Work.{table_rows, matches_in}
use Rattle.cost_model.specs.Fits.{FitsIndex, FitsRelation, FitsBlock, row_product}
use Rattle.cost_model.specs.Counts.{index_stats_of, relation_stats_of, stats_of}
use Rattle.table_stats.specs.Product.{first_past, row_counts}
use Rattle.table_stats.proofs.Heights.{low}

-- rows take no more pages than there are of them
quotient-few : (rows per : ℕ) → 1 ≤ per → (rows + (per - 1)) / per ≤ rows
quotient-few zero per some =
    let below : zero + (per - 1) < per = omega (arith, some) in
    let none : (zero + (per - 1)) / per < 1 = div_below (zero + (per - 1)) per 1 some (omega (arith, below)) in
    omega (arith, none)
quotient-few (suc rows) per some =
    let product : per * suc rows ≡ per * rows + per = mul-suc per rows in
    let rest : 1 * rows ≤ per * rows = mul-le-mul_right rows some in
    div-le_of_le-mul per (omega (arith, product, rest, some))

-- a page has a row
pub some-rows : (columns : ℕ) → 1 ≤ columns → columns ≤ 32 → 1 ≤ rows_per_page columns
some-rows columns some few = le-div 1 1024 columns some (omega (arith, few))

pages-few : (columns rows : ℕ) → 1 ≤ columns → columns ≤ 32 → pages_of columns rows ≤ rows
pages-few columns rows some few = quotient-few rows (rows_per_page columns) (some-rows columns some few)

-- what is counted exactly where a test passes
some-if : (b : Bool) (n : ℕ) → IsSome (cond b (Some n) None) ↔ IsTrue b
some-if true n = (λ _. refl, λ _. refl)
some-if false n = (λ some. some, λ is. is)

few-if : (b : Bool) (n most : ℕ) → n ≤ most → IfSome (cond b (Some n) None) (λ m. m ≤ most)
few-if true n most few = few
few-if false n most few = tt

index-fits : (tables : List StoredTable) (relation : RelationTree) (column : ℕ) → length (table_rows tables relation) ≤ max_rows
    → FitsIndex relation (length (table_rows tables relation)) (index_stats_of tables relation column)
index-fits tables relation column few =
    let rows = table_rows tables relation in
    let usable = list_any (is_usable relation.columns column) relation.filter in
    let entries = count_by (λ row. not (is_null (value_at row column))) rows in
    let height = low entries (omega (arith, few, count_by-le-length (λ row. not (is_null (value_at row column))) rows)) in
    record {
      some_height = height.some;
      low = height.few;
      counted = some-if usable (matches_in tables relation column);
      matches = few-if usable (matches_in tables relation column) (length rows) (count_by-le-length _ rows);
    }

indexes-fit : (tables : List StoredTable) (relation : RelationTree) (indexes : List ℕ) → length (table_rows tables relation) ≤ max_rows
    → All (FitsIndex relation (length (table_rows tables relation))) (map (index_stats_of tables relation) indexes)
indexes-fit tables relation [] few = All-nil (FitsIndex relation (length (table_rows tables relation)))
indexes-fit tables relation (column ∷ indexes) few =
    All-cons (FitsIndex relation (length (table_rows tables relation))) (index_stats_of tables relation column) (map (index_stats_of tables relation) indexes)
    (index-fits tables relation column few) (indexes-fit tables relation indexes few)

columns-same : (tables : List StoredTable) (relation : RelationTree) (indexes : List ℕ) → map (λ index. index.column) (map (index_stats_of tables relation) indexes) ≡ indexes
columns-same tables relation [] = refl
columns-same tables relation (column ∷ indexes) = ap (λ more. column ∷ more) (columns-same tables relation indexes)

relation-fits : (tables : List StoredTable) (kinds : List Kind) (relation : RelationTree) → IsRelation kinds relation → length (table_rows tables relation) ≤ max_rows
    → FitsRelation relation (relation_stats_of tables relation)
relation-fits tables kinds relation is few = record {
  rows = few;
  pages = pages-few (length relation.columns) (length (table_rows tables relation)) is.some is.few;
  kept = count_by-le-length _ (table_rows tables relation);
  indexes = columns-same tables relation relation.indexes;
  columns = indexes-fit tables relation relation.indexes few;
}

abbrev HasFewRows : List StoredTable → RelationTree → Type 0
HasFewRows tables relation = length (table_rows tables relation) ≤ max_rows

relations-fit : (tables : List StoredTable) (kinds : List Kind) (relations : List RelationTree) → All (IsRelation kinds) relations → All (HasFewRows tables) relations
    → AllZip FitsRelation relations (map (relation_stats_of tables) relations)
relations-fit tables kinds [] are few = tt
relations-fit tables kinds (relation ∷ relations) are few = (
  relation-fits tables kinds relation (All-head (IsRelation kinds) relation relations are) (All-head (HasFewRows tables) relation relations few),
  relations-fit tables kinds relations (All-tail (IsRelation kinds) relation relations are) (All-tail (HasFewRows tables) relation relations few),
)

-- where no product is past the limit, the last isn't
product-fits : (tables : List StoredTable) (product : ℕ) (relations : List RelationTree) → product ≤ max_product → first_past product (row_counts tables relations) ≡ None
    → product * row_product (map (relation_stats_of tables) relations) ≤ max_product
product-fits tables product [] fits none = omega (arith, fits)
product-fits tables product (relation ∷ relations) fits none =
    let factor = max 1 (length (table_rows tables relation)) in
    let next = product * factor in
    elim (cases_Bool (ltb max_product next)) [
      | inl past ↦ absurd (no-some (rw past at none))
      | inr within ↦
          let few : next ≤ max_product = grind (arith, nat_tests, within) in
          let rest = product-fits tables next relations few (rw within at none) in
          subst (λ n. n ≤ max_product) (mul_assoc product factor (row_product (map (relation_stats_of tables) relations))) rest
    ]
  where
    no-some : {n : ℕ} → Some n ≡ None → ⊥
    no-some is = cc

pub counts-fit : (tables : List StoredTable) (block : BlockTree) → IsBlock block → All (HasFewRows tables) block.relations → first_past 1 (row_counts tables block.relations) ≡ None
    → FitsBlock block (stats_of tables block)
counts-fit tables block is few none =
    let product = product-fits tables 1 block.relations (omega arith) none in
    record {
      relations = relations-fit tables block.parameters block.relations is.relations few;
      product = omega (arith, product);
    }
