-- The fixed conjuncts of a filter: found one after another, and what an index can use of them.
use Rattle.std.proofs.Common.{◌≡◌, ℕ, ◌+◌, ◌<◌, ◌≤◌, ◌&&◌, Bool, true, false, not, cond, All, List, [], ◌∷◌, ◌++◌, filter, get_or, length, map, take, vec_len, eqb, append-nil, refl, sym, ap, subst, ◌∙◌, arith}
use Rattle.std.proofs.lemmas.Bool.Decides.{nat_tests}
use Rattle.table_stats.specs.declared.filter.FixedConjunct.{FixedConjunct}
use Rattle.std.proofs.lemmas.List.{get_or-map, length-map, map_more, map-append}
use Rattle.std.proofs.lemmas.List.Elements.{All-get_or, filter-append}
use Rattle.sql_values.specs.declared.column.ColumnType.{ColumnType}
use Rattle.sql_values.specs.Stored.{ValueRow}
use Rattle.query_block.specs.declared.condition.Condition.{Condition}
use Rattle.query_block.specs.Blocks.{FitsColumns}
use Rattle.query_block.specs.Conditions.{FilterTree, filter_tree}
use Rattle.query_block.specs.Meaning.{meets_filter}
use Rattle.query_block.specs.Parameters.{fixed_of, is_open}
use Rattle.row_filter.proofs.Fixed.{fixed-all}
use Rattle.plan_tree.specs.Usable.{is_fixed_usable, is_usable}
use Rattle.plan_tree.proofs.MetParts.{meets-part}
use Rattle.table_stats.specs.declared.filter.ReadyFilter.{ReadyFilter}
use Rattle.table_stats.specs.Ready.{IsReadyFilter, own, own_tree}

-- a conjunct is kept by both tests, or by the second of those that the first keeps
kept-by-both : (usable opened : Bool) (one : FilterTree) (rest : List FilterTree) → cond (usable && not opened) (one ∷ rest) rest ≡ cond (not opened) (cond usable (one ∷ rest) rest) rest
kept-by-both true true one rest = refl
kept-by-both true false one rest = refl
kept-by-both false true one rest = refl
kept-by-both false false one rest = refl

filter-if : (test : FilterTree → Bool) (b : Bool) (one : FilterTree) (more : List FilterTree) → cond b (cond (test one) (one ∷ filter test more) (filter test more)) (filter test more) ≡ filter test (cond b (one ∷ more) more)
filter-if test true one more = refl
filter-if test false one more = refl

-- what an index can use of the fixed conjuncts is what it can use without a parameter
pub fixed-usable : (columns : List ColumnType) (column : ℕ) (conjuncts : List FilterTree) → filter (is_fixed_usable columns column) conjuncts ≡ filter (is_usable columns column) (fixed_of conjuncts)
fixed-usable columns column [] = refl
fixed-usable columns column (conjunct ∷ more) =
    ap (λ (rest : List FilterTree). cond (is_fixed_usable columns column conjunct) (conjunct ∷ rest) rest) (fixed-usable columns column more)
    ∙ kept-by-both (is_usable columns column conjunct) (is_open conjunct) conjunct (filter (is_usable columns column) (fixed_of more))
    ∙ filter-if (is_usable columns column) (not (is_open conjunct)) conjunct (fixed_of more)

-- a row that meets each fixed conjunct meets these
pub fixed-part : (columns : List ColumnType) (column : ℕ) (conjuncts : List FilterTree) (row : ValueRow) → meets_filter (fixed_of conjuncts) row ≡ true
    → meets_filter (filter (is_fixed_usable columns column) conjuncts) row ≡ true
fixed-part columns column conjuncts row is =
    ap (λ (some : List FilterTree). meets_filter some row) (fixed-usable columns column conjuncts) ∙ meets-part (is_usable columns column) (fixed_of conjuncts) row is

-- a conjunct of a ready filter fits its columns without the parameters
pub conjunct-fit : (ready : ReadyFilter) (i : ℕ) (d : FixedConjunct) → IsReadyFilter ready → i < length ready.conjuncts.items → FitsColumns [] ready.relation.now.columns (own_tree (get_or ready.conjuncts.items i d))
conjunct-fit ready i d is below =
    let columns = ready.relation.now.columns in
    let all = fixed-all is.relation.kinds columns (own ready).filter is.relation.is.filter in
    let own-all : All (FitsColumns [] columns) (map own_tree ready.conjuncts.items) = subst (All (FitsColumns [] columns)) (sym is.fixed) all in
    let there : i < length (map own_tree ready.conjuncts.items) = simp length-map below in
    subst (FitsColumns [] columns) (get_or-map own_tree ready.conjuncts.items i d (own_tree d) below) (All-get_or (FitsColumns [] columns) (map own_tree ready.conjuncts.items) i (own_tree d) there own-all)

-- so many fixed conjuncts are ready
pub fixed-count : (ready : ReadyFilter) → IsReadyFilter ready → length (fixed_of (own ready).filter) ≡ vec_len ready.conjuncts
fixed-count ready is = sym (ap length is.fixed) ∙ length-map ready.conjuncts.items own_tree ∙ sym ready.conjuncts.ok.0

pub some-fixed : (ready : ReadyFilter) → IsReadyFilter ready → eqb (vec_len ready.conjuncts) 0 ≡ false → 1 ≤ length (fixed_of (own ready).filter)
some-fixed ready is other =
    let count = fixed-count ready is in
    grind (arith, nat_tests, count, other)

-- ---- one conjunct more

module _ (conditions : List Condition) (i : ℕ) (one : Condition) (below : i < length conditions) (is : one ≡ get_or conditions i one)
    (conjuncts : List FixedConjunct) (so_far : map own_tree conjuncts ≡ fixed_of (map filter_tree (take i conditions))) where
  found-more : map own_tree conjuncts ++ cond (not (is_open (filter_tree one))) (filter_tree one ∷ []) [] ≡ fixed_of (map filter_tree (take (i + 1) conditions))
  found-more =
      let fixed : FilterTree → Bool = λ tree. not (is_open tree) in
      let last : List FilterTree = cond (not (is_open (filter_tree one))) (filter_tree one ∷ []) [] in
      ap (λ trees. trees ++ last) so_far ∙ sym (filter-append fixed (map filter_tree (take i conditions)) (filter_tree one ∷ []))
      ∙ ap (filter fixed) (ap (λ (last : Condition). map filter_tree (take i conditions) ++ filter_tree last ∷ []) is ∙ sym (map_more filter_tree conditions i one below))

  pub one-fixed : (conjunct : FixedConjunct) (more : List FixedConjunct) → more ≡ conjuncts ++ conjunct ∷ [] → own_tree conjunct ≡ filter_tree one → is_open (filter_tree one) ≡ false
      → map own_tree more ≡ fixed_of (map filter_tree (take (i + 1) conditions))
  one-fixed conjunct more are same fixed =
      ap (map own_tree) are ∙ map-append own_tree conjuncts (conjunct ∷ []) ∙ ap (λ tree. map own_tree conjuncts ++ tree ∷ []) same
      ∙ ap (λ b. map own_tree conjuncts ++ cond (not b) (filter_tree one ∷ []) []) (sym fixed) ∙ found-more

  pub one-open : (same : List FixedConjunct) → same ≡ conjuncts → is_open (filter_tree one) ≡ true → map own_tree same ≡ fixed_of (map filter_tree (take (i + 1) conditions))
  one-open same are open' =
      ap (map own_tree) are ∙ sym (append-nil (map own_tree conjuncts))
      ∙ ap (λ b. map own_tree conjuncts ++ cond (not b) (filter_tree one ∷ []) []) (sym open') ∙ found-more
