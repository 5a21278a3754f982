-- The relations of tables with their filters, one after another.
use Rattle.std.proofs.Common.{◌≡◌, ◌∙◌, ℕ, ◌+◌, ◌<◌, List, [], ◌∷◌, ◌++◌, length, replicate, get_or, refl, sym, ap, arith}
use Rattle.std.proofs.lemmas.Grind.{common_steps}
use Rattle.std.specs.List.{count_by, list_any}
use Rattle.std.proofs.lemmas.List.Sums.{sum_by-cons}
use Rattle.query_block.specs.Conditions.{FilterTree}
use Rattle.query_block.specs.Parameters.{is_open}
use Rattle.query_block.specs.Blocks.{has_parameter}
use Rattle.sql_bind.specs.Conjuncts.{Conjunct}
use Rattle.sql_bind.specs.Named.{NamedTable}
use Rattle.sql_bind.specs.Binding.{relation_with, relations_from, filter_of}
use Rattle.sql_bind.specs.Collected.{more_filters, with_filters}

pub no_filters : (tables : List NamedTable) → with_filters tables [] ≡ []
no_filters [] = refl
no_filters (table ∷ tables) = refl

pub with_filters-push : (tables : List NamedTable) (filters : List (List FilterTree)) (filter : List FilterTree) (table : NamedTable) → length filters < length tables
    → table ≡ get_or tables (length filters) table → with_filters tables (filters ++ filter ∷ []) ≡ with_filters tables filters ++ relation_with table filter ∷ []
with_filters-push [] filters filter table below is = absurd (omega (arith, below))
with_filters-push (first ∷ tables) [] filter table below is =
    ap (λ one. relation_with one filter ∷ with_filters tables []) (sym is) ∙ ap (λ more. relation_with table filter ∷ more) (no_filters tables)
with_filters-push (first ∷ tables) (one ∷ filters) filter table below is =
    ap (λ more. relation_with first one ∷ more) (with_filters-push tables filters filter table (omega (arith, below)) is)

-- with what all conjuncts add to no filter, they are those of the block
pub relations-of_parts : (conjuncts : List Conjunct) (relation : ℕ) (tables : List NamedTable)
    → with_filters tables (more_filters conjuncts relation (replicate (length tables) [])) ≡ relations_from conjuncts relation tables
relations-of_parts conjuncts relation [] = refl
relations-of_parts conjuncts relation (table ∷ tables) =
    ap (λ more. relation_with table (filter_of conjuncts relation) ∷ more) (relations-of_parts conjuncts (relation + 1) tables)

-- how many of them have a parameter
pub open-count : (conjuncts : List Conjunct) (relation : ℕ) (tables : List NamedTable)
    → count_by (list_any is_open) (more_filters conjuncts relation (replicate (length tables) [])) ≡ count_by has_parameter (relations_from conjuncts relation tables)
open-count conjuncts relation [] = refl
open-count conjuncts relation (table ∷ tables) =
    grind (arith, common_steps, sum_by-cons, open-count conjuncts (relation + 1) tables)
