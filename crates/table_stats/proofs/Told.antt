-- What the counts of indexes tell of the rows that the fixed conjuncts of a filter keep.
use Rattle.std.proofs.Common.{◌≡◌, ℕ, ◌<◌, ◌≤◌, Bool, true, false, ◌&&◌, cond, not, List, [], ◌∷◌, All, Some, None, length, map, filter, count_by, get_or, sym, ap, ◌∙◌, refl, arith}
use Rattle.std.specs.Prelude.{Contains}
use Rattle.std.specs.List.{list_all, list_any}
use Rattle.std.proofs.lemmas.Bool.{not_from_false}
use Rattle.std.proofs.lemmas.List.{get_or-map, get_or_default, length-map}
use Rattle.std.proofs.lemmas.List.Elements.{All-contains, filter_agree}
use Rattle.std.proofs.lemmas.List.Sums.{length-filter}
use Rattle.sql_values.specs.Stored.{StoredTable, ValueRow}
use Rattle.sql_values.specs.Truth.{is_null}
use Rattle.query_block.specs.Blocks.{RelationTree}
use Rattle.query_block.specs.Conditions.{FilterTree}
use Rattle.query_block.specs.Meaning.{meets_filter}
use Rattle.query_block.specs.Parameters.{fixed_of}
use Rattle.query_block.specs.Truth.{value_at}
use Rattle.plan_tree.specs.Enumerated.{has_usable}
use Rattle.plan_tree.specs.Usable.{is_usable}
use Rattle.plan_tree.specs.Work.{matches_in, table_rows}
use Rattle.plan_tree.proofs.MetParts.{meets-some}
use Rattle.cost_model.specs.declared.stats.IndexStats.{IndexStats}
use Rattle.cost_model.specs.Counts.{index_stats_of}
use Rattle.db_catalog.proofs.IndexEntries.{followed}
use Rattle.table_stats.specs.Narrow.{TellsAll}
use Rattle.table_stats.proofs.Fixed.{fixed-usable}

module _ (tables : List StoredTable) (relation : RelationTree) (columns : List IndexStats) (are : columns ≡ map (index_stats_of tables relation) relation.indexes) where
  -- each of the counts is that of an indexed column
  pub record IsOfIndex (index : IndexStats) : Type 0 where
    pub counted : index ≡ index_stats_of tables relation index.column
    pub indexed : Contains relation.indexes index.column

  pub of-index : (index : IndexStats) → Contains columns index → IsOfIndex index
  of-index index there =
      let place = there.0 in
      let column = get_or relation.indexes place 0 in
      let below : place < length relation.indexes = omega (arith, there.1, ap length are, length-map relation.indexes (index_stats_of tables relation)) in
      let is : index ≡ index_stats_of tables relation column =
      sym there.2 ∙ ap (λ (all : List IndexStats). get_or all place index) are ∙ get_or-map (index_stats_of tables relation) relation.indexes place 0 index below in
      let same : column ≡ index.column = sym (ap (λ (one : IndexStats). one.column) is) in
      record {
        counted = is ∙ ap (index_stats_of tables relation) same;
        indexed = (place, below, get_or_default relation.indexes place index.column 0 below ∙ same);
      }

  -- the matches that are counted
  is-by : (b : Bool) (n m : ℕ) → cond b (Some n) None ≡ Some m → m ≡ n
  is-by true n m is = cc
  is-by false n m is = cc

  -- ---- where every fixed conjunct is usable on the column, and there is one

  all-kept : (test : FilterTree → Bool) (filter' : List FilterTree) → list_all test filter' ≡ true → filter test filter' ≡ filter'
  all-kept test [] all = refl
  all-kept test (conjunct ∷ more) all = grind (arith, all-kept test more)

  some-kept : (test : FilterTree → Bool) (filter' : List FilterTree) → 1 ≤ length filter' → list_all test filter' ≡ true → list_any test filter' ≡ true
  some-kept test [] some all = absurd (omega (arith, some))
  some-kept test (conjunct ∷ more) some all = grind arith

  pub told : (matches : ℕ) → 1 ≤ length (fixed_of relation.filter) → TellsAll relation columns matches
      → matches ≡ count_by (meets_filter (fixed_of relation.filter)) (table_rows tables relation)
  told matches some tells =
      let column = tells.index.column in
      let rows = table_rows tables relation in
      let fixed = fixed_of relation.filter in
      let test = meets_filter fixed in
      let counted = (of-index tells.index tells.there).counted in
      let usable = some-kept (is_usable relation.columns column) fixed some tells.usable in
      let found = λ (conjuncts : List FilterTree) (row : ValueRow). not (is_null (value_at row column)) && meets_filter conjuncts row in
      is-by (has_usable relation column) (matches_in tables relation column) matches (sym (ap (λ (one : IndexStats). one.matches) counted) ∙ tells.counted)
      ∙ ap (λ (conjuncts : List FilterTree). count_by (found conjuncts) rows) (fixed-usable relation.columns column relation.filter ∙ all-kept (is_usable relation.columns column) fixed tells.usable)
      ∙ sym (length-filter (found fixed) rows)
      ∙ ap length (filter_agree (found fixed) test
      (λ row. followed (not (is_null (value_at row column))) (test row) (λ is. not_from_false _ (meets-some relation.columns column fixed row usable is))) rows)
      ∙ length-filter test rows

  -- ---- the columns of the counts

  pub columns-there : All (λ column. column < length relation.columns) relation.indexes → All (λ index. index.column < length relation.columns) columns
  columns-there all place d below =
      let is = of-index (get_or columns place d) (place, below, get_or_default columns place (get_or columns place d) d below) in
      All-contains (λ column. column < length relation.columns) relation.indexes (get_or columns place d).column all is.indexed

-- ---- without a filter

pub all-met : (rows : List ValueRow) → count_by (meets_filter []) rows ≡ length rows
all-met rows = sym (length-filter (meets_filter []) rows) ∙ ap length (all-pass rows)
  where
    all-pass : (rows : List ValueRow) → filter (meets_filter []) rows ≡ rows
    all-pass [] = refl
    all-pass (row ∷ rows) = ap (λ more. row ∷ more) (all-pass rows)
