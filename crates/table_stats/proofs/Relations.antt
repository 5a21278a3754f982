-- Loops over the relations of a block: one item more, products of counts, and counts that aren't what they were.
use Rattle.std.proofs.Common.{◌≡◌, ℕ, ◌+◌, ◌*◌, ◌<◌, ◌≤◌, max, ltb, Some, List, [], ◌∷◌, ◌++◌, length, map, drop, take, get_or, ap, sym, ◌∙◌, arith}
use Rattle.std.specs.Prelude.{true, false, Option, Result, Ok, Err, IsErrAnd}
use Rattle.std.specs.Option.{option_or}
use Rattle.std.proofs.lemmas.Bool.Decides.{nat_tests}
use Rattle.std.proofs.lemmas.List.{at_drop_more, map_more}
use Rattle.sql_values.specs.Limits.{max_product}
use Rattle.sql_values.specs.Stored.{StoredTable}
use Rattle.query_block.specs.declared.block.Relation.{Relation}
use Rattle.query_block.specs.Blocks.{relation_tree}
use Rattle.plan_tree.specs.Work.{table_rows}
use Rattle.db_catalog.specs.Database.{DatabaseState}
use Rattle.cost_model.specs.declared.stats.RelationStats.{RelationStats}
use Rattle.table_stats.specs.Product.{first_past, row_counts}
use Rattle.cost_model.specs.declared.stale.Stale.{Stale}
use Rattle.cost_model.specs.Staleness.{RefusesFirst}
use Rattle.table_stats.specs.Fresh.{first_stale, stale_in}

-- ---- one item more

pub one-pushed : {X Y : Type 0} (f : X → Y) (xs : List X) (i : ℕ) (d : X) (made more : List Y) (one : Y) → i < length xs → made ≡ map f (take i xs) → more ≡ made ++ one ∷ []
    → one ≡ f (get_or xs i d) → more ≡ map f (take (i + 1) xs)
one-pushed f xs i d made more one below so_far is last =
    is ∙ (λ k. so_far k ++ last k ∷ []) ∙ sym (map_more f xs i d below)

-- ---- products

-- a product within its limit isn't the one that is looked for
pub next-count : (tables : List StoredTable) (relations : List Relation) (i : ℕ) (relation : Relation) (product factor : ℕ) → i < length relations → relation ≡ get_or relations i relation
    → factor ≡ max (length (table_rows tables (relation_tree relation))) 1 → product * factor ≤ max_product
    → first_past product (row_counts tables (map relation_tree (drop i relations))) ≡ first_past (product * factor) (row_counts tables (map relation_tree (drop (i + 1) relations)))
next-count tables relations i relation product factor below is factor_is fits =
    let rest = row_counts tables (map relation_tree (drop (i + 1) relations)) in
    let count : Relation → ℕ = λ one. length (table_rows tables (relation_tree one)) in
    let same : max 1 (count relation) ≡ factor = omega (arith, factor_is) in
    let within : ltb max_product (product * factor) ≡ false = grind (arith, nat_tests, fits) in
    let test : ltb max_product (product * max 1 (count relation)) ≡ false = ap (λ n. ltb max_product (product * n)) same ∙ within in
    at_drop_more (λ some. first_past product (row_counts tables (map relation_tree some))) relations i relation below
    ∙ ap (λ one. first_past product (count one ∷ rest)) (sym is)
    ∙ rw test (ap (λ n. first_past (product * n) rest) same)

-- and the first one past it is
pub past-count : (tables : List StoredTable) (relations : List Relation) (i : ℕ) (relation : Relation) (product factor : ℕ) → i < length relations → relation ≡ get_or relations i relation
    → factor ≡ max (length (table_rows tables (relation_tree relation))) 1 → max_product < product * factor
    → first_past product (row_counts tables (map relation_tree (drop i relations))) ≡ Some (product * factor)
past-count tables relations i relation product factor below is factor_is past =
    let rest = row_counts tables (map relation_tree (drop (i + 1) relations)) in
    let count : Relation → ℕ = λ one. length (table_rows tables (relation_tree one)) in
    let same : max 1 (count relation) ≡ factor = omega (arith, factor_is) in
    let beyond : ltb max_product (product * factor) ≡ true = grind (arith, nat_tests, past) in
    let test : ltb max_product (product * max 1 (count relation)) ≡ true = ap (λ n. ltb max_product (product * n)) same ∙ beyond in
    at_drop_more (λ some. first_past product (row_counts tables (map relation_tree some))) relations i relation below
    ∙ ap (λ one. first_past product (count one ∷ rest)) (sym is)
    ∙ rw test (ap (λ n. Some (product * n)) same)

-- ---- counts that aren't what they were

pub next-stale : (database : DatabaseState) (relations : List Relation) (stats : List RelationStats) (n : ℕ) (relation : Relation) (one : RelationStats) → n < length relations → n < length stats
    → relation ≡ get_or relations n relation → one ≡ get_or stats n one
    → first_stale database n (map relation_tree (drop n relations)) (drop n stats)
    ≡ option_or (stale_in database n (relation_tree relation) one) (first_stale database (n + 1) (map relation_tree (drop (n + 1) relations)) (drop (n + 1) stats))
next-stale database relations stats n relation one below below' is is' =
    let rest = first_stale database (n + 1) (map relation_tree (drop (n + 1) relations)) (drop (n + 1) stats) in
    at_drop_more (λ some. first_stale database n (map relation_tree some) (drop n stats)) relations n relation below
    ∙ ap (λ r. first_stale database n (relation_tree r ∷ map relation_tree (drop (n + 1) relations)) (drop n stats)) (sym is)
    ∙ at_drop_more (λ some. first_stale database n (relation_tree relation ∷ map relation_tree (drop (n + 1) relations)) some) stats n one below'
    ∙ ap (λ s. option_or (stale_in database n (relation_tree relation) s) rest) (sym is')

-- a refusal that is handed on, of what stands before the rest
pub handed-on : {T E : Type 0} (found rest : Option Stale) (result : Result T Stale) (stale : Stale) → IsErrAnd result (λ one. one ≡ stale) → RefusesFirst {T = E} found (Err stale)
    → RefusesFirst {T = T} (option_or found rest) result
handed-on found rest (Ok value) stale is first = absurd is
handed-on found rest (Err one) stale is first = record {
  answered = tt;
  refused = ap (λ some. option_or some rest) first.refused ∙ ap Some (sym is);
}
