-- Rows that are counted one after another, block after block, or by the entries of an index.
use Rattle.std.proofs.Common.{◌≡◌, ℕ, ℤ, ◌+◌, ◌*◌, ◌^◌, ◌<◌, ◌≤◌, Bool, All, true, false, List, ◌++◌, length, map, filter, count_by, get_or, take, drop, cond, Fits, w64, sym, subst, ap, ap₂, ◌∙◌, inl, inr, refl, arith}
use mir.Val.{bool_byte}
use Rattle.std.specs.Prelude.{IsTrue, min}
use Rattle.std.specs.Int.{div_ceil}
use Rattle.std.proofs.Math.Seq.{take-add}
use Rattle.std.proofs.lemmas.Bool.{cases_Bool}
use Rattle.std.proofs.lemmas.Grind.{div_ceil_times}
use Rattle.std.proofs.lemmas.List.{get_or_append_left, length-append, map-append, length-drop, length-take, take_min, take_all}
use Rattle.std.proofs.lemmas.List.Elements.{filter-append}
use Rattle.std.proofs.lemmas.List.Sums.{count_by_more_yes, count_by_more_no, count_by-le-length, length-filter}
use Rattle.std.proofs.lemmas.List.Sorted.{length_permutation, All-permutation, IsPermutation-append_comm, IsPermutation-map, IsPermutation-trans}
use Rattle.std.specs.List.Sorted.{IsPermutation}
use Rattle.sql_values.specs.Words.{word_of}
use Rattle.sql_values.specs.Stored.{ValueRow, StandsFor}
use Rattle.heap_pages.specs.Spans.{rows_of_span}
use Rattle.heap_pages.specs.declared.spans.RowSpan.{RowSpan}
use Rattle.query_block.specs.Blocks.{RelationTree}
use Rattle.query_block.specs.Meaning.{meets_filter}
use Rattle.query_block.specs.Parameters.{fixed_of}
use Rattle.btree_index.specs.Entries.{HaveWords, IndexEntry, is_within}
use Rattle.plan_tree.specs.declared.range.WordRange.{WordRange}
use Rattle.plan_tree.specs.Ranges.{Finds}
use Rattle.plan_tree.specs.Usable.{is_fixed_usable}
use Rattle.plan_tree.proofs.MetParts.{meets-some}
use Rattle.db_catalog.specs.Database.{DatabaseState, StandAsWords, table_at}
use Rattle.db_catalog.specs.Fits.{FitsTable}
use Rattle.db_catalog.specs.Indexes.{index_at, row_of_entry}
use Rattle.db_catalog.proofs.IndexEntries.{found-rows}
use Rattle.db_catalog.proofs.OfRelations.{relation_words, relation_values}
use Rattle.db_catalog.proofs.Permutations.{permuted}
use Rattle.db_catalog.proofs.Picked.{in-range}
use Rattle.table_stats.specs.Kept.{IsRowBlock}
use Rattle.table_stats.specs.Narrow.{uses_some}
use Rattle.db_catalog.specs.ColumnRanges.{AreStored}
use Rattle.table_stats.proofs.Fixed.{fixed-part}

-- the words of a row of a relation's table may be tried
pub own-row : (database : DatabaseState) (own : RelationTree) → FitsTable database own → (words : List ℤ) (row : ValueRow)
    → StandsFor database.texts (table_at database own.table).columns words row → AreStored database.texts own.columns words
own-row database own fits words row stands = record {
  allowed = relation_words database own fits words row stands;
  by_value = stands.by_value ∙ ap (map (word_of database.texts)) (sym (relation_values database own fits words row stands));
}

-- ---- one row more

byte-is : (b : Bool) → bool_byte b ≡ cond b 1 0
byte-is true = refl
byte-is false = refl

pub one-more : {X : Type 0} (test : X → Bool) (xs : List X) (i : ℕ) (d : X) (b : Bool) (kept more : ℕ) → i < length xs → kept ≡ count_by test (take i xs) → more ≡ bool_byte b → b ≡ test (get_or xs i d)
    → kept + more ≡ count_by test (take (i + 1) xs)
one-more test xs i d b kept more below so_far is same =
    let one : more ≡ cond (test (get_or xs i d)) 1 0 = is ∙ byte-is b ∙ ap (λ t. cond t 1 0) same in
    elim (cases_Bool (test (get_or xs i d))) [
      | inl here ↦
          let found : more ≡ 1 = one ∙ ap (λ t. cond t 1 0) here in
          omega (arith, so_far, found, count_by_more_yes test xs i d below here)
      | inr out ↦
          let none : more ≡ 0 = one ∙ ap (λ t. cond t 1 0) out in
          omega (arith, so_far, none, count_by_more_no test xs i d below out)
    ]

byte-few : (b : Bool) → bool_byte b ≤ 1
byte-few true = omega arith
byte-few false = omega arith

-- a count of some of the first rows stays below a word's end
pub step-fits : {X : Type 0} (test : X → Bool) (xs : List X) (i most : ℕ) (b : Bool) (kept more : ℕ) → kept ≡ count_by test (take i xs) → more ≡ bool_byte b → i < most → most < 2 ^ 64
    → Fits w64 (kept + more)
step-fits test xs i most b kept more so_far is below few =
    record { fits = omega (arith, so_far, is, byte-few b, count_by-le-length test (take i xs), length-take i xs, below, few) }

pub count-append : {X : Type 0} (test : X → Bool) (xs ys : List X) → count_by test (xs ++ ys) ≡ count_by test xs + count_by test ys
count-append test xs ys =
    sym (length-filter test (xs ++ ys)) ∙ ap length (filter-append test xs ys) ∙ length-append (filter test xs) (filter test ys)
    ∙ ap₂ (λ m n. m + n) (length-filter test xs) (length-filter test ys)

-- what holds of entries in another order holds of both parts of these
pub all-left : {X : Type 0} (P : X → Type 0) (all xs ys : List X) → IsPermutation all (xs ++ ys) → All P all → All P xs
all-left P all xs ys same each k d there =
    subst P (get_or_append_left xs ys d k there) (All-permutation P all (xs ++ ys) same each k d (omega (arith, there, length-append xs ys)))

pub all-right : {X : Type 0} (P : X → Type 0) (all xs ys : List X) → IsPermutation all (xs ++ ys) → All P all → All P ys
all-right P all xs ys same each = all-left P all ys xs (IsPermutation-trans _ _ _ same (IsPermutation-append_comm xs ys)) each

-- and the rows of both parts that pass are those of all
pub counted-both : {X Y : Type 0} (test : Y → Bool) (f : X → Y) (all xs ys : List X) → IsPermutation all (xs ++ ys)
    → count_by test (map f xs) + count_by test (map f ys) ≡ count_by test (map f all)
counted-both test f all xs ys same =
    sym (count-append test (map f xs) (map f ys)) ∙ ap (count_by test) (sym (map-append f xs ys))
    ∙ sym (length-filter test (map f (xs ++ ys))) ∙ length_permutation (filter test (map f all)) (filter test (map f (xs ++ ys))) (permuted (filter test) (filter-append test) (IsPermutation-map f all (xs ++ ys) same))
    ∙ length-filter test (map f all)

-- ---- a block of 64 rows more

module _ (test : ValueRow → Bool) (rows : List ValueRow) where
  pub block-more : (n block kept more : ℕ) (span : RowSpan) → n ≡ length rows → IsRowBlock n block span → kept ≡ count_by test (take (block * 64) rows) → more ≡ count_by test (rows_of_span span rows)
      → kept + more ≡ count_by test (take ((block + 1) * 64) rows)
  block-more n block kept more span all is so_far counted =
      let begin = block * 64 in
      let left : span.count ≡ min 64 (length (drop begin rows)) = omega (arith, all, is.count, length-drop begin rows) in
      let those : rows_of_span span rows ≡ take 64 (drop begin rows) = (λ k. take (left k) (drop (is.first k) rows)) ∙ take_min 64 (drop begin rows) in
      let next : (block + 1) * 64 ≡ begin + 64 = omega arith in
      (λ k. so_far k + (counted ∙ ap (count_by test) those) k)
      ∙ sym (count-append test (take begin rows) (take 64 (drop begin rows)))
      ∙ ap (count_by test) (sym (take-add begin 64 rows) ∙ ap (λ n. take n rows) (sym next))

  -- behind the last one there is none
  pub blocks-all : (n block : ℕ) → n ≡ length rows → div_ceil n 64 ≤ block → take (block * 64) rows ≡ rows
  blocks-all n block all past =
      let enough = (div_ceil_times n 64 (omega arith)).0 in
      take_all (block * 64) rows (omega (arith, enough, past, all))

-- so many at the most
pub few-counted : (test : ValueRow → Bool) (rows : List ValueRow) (n : ℕ) → count_by test (take n rows) ≤ length rows
few-counted test rows n = omega (arith, count_by-le-length test (take n rows), length-take n rows)

-- ---- the rows that an index leads to

module _ (database : DatabaseState) (own : RelationTree) (fits : FitsTable database own) (column : ℕ) (range : WordRange) (usable : IsTrue (uses_some own column))
    (finds : Finds database.texts own.columns column range (filter (is_fixed_usable own.columns column) own.filter))
    (words : HaveWords (index_at database own.table column)) (stand : StandAsWords database own.table) where
  -- no other row meets each fixed conjunct
  pub found-all : count_by (meets_filter (fixed_of own.filter)) (map (row_of_entry database own.table) (filter (is_within range.from range.to) (index_at database own.table column)))
      ≡ count_by (meets_filter (fixed_of own.filter)) (table_at database own.table).rows
  found-all =
      let fixed = fixed_of own.filter in
      let test = meets_filter fixed in
      let wanted = meets_filter (filter (is_fixed_usable own.columns column) own.filter) in
      let row = row_of_entry database own.table in
      let read : List ValueRow = map row (filter (λ (entry : IndexEntry). wanted (row entry)) (index_at database own.table column)) in
      let rows = (table_at database own.table).rows in
      let same = found-rows database own.table column wanted test
      (λ r is. (fixed-part own.columns column own.filter r is, meets-some own.columns column fixed r usable is)) in
      ap (λ entries. count_by test (map row entries)) (in-range database own fits column range.from range.to wanted finds words stand)
      ∙ sym (length-filter test read)
      ∙ sym (length_permutation (filter test read) (filter test rows) same)
      ∙ length-filter test rows
