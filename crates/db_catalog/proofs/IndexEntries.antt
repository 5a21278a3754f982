-- The entries of an index: each is that of a row, whose value in the column isn't NULL.
use Rattle.std.proofs.Common.{◌≡◌, ℕ, ◌+◌, ◌<◌, Bool, true, false, not, cond, ◌&&◌, IsTrue, nat_eq, List, [], ◌∷◌, ◌++◌, All, length, filter, map, drop, get_or, length-drop, refl, sym, ap, ◌∙◌, arith}
use Rattle.std.specs.Prelude.{count_by}
use Rattle.std.specs.List.{list_any, Contains}
use Rattle.std.specs.List.Sorted.{IsPermutation}
use Rattle.std.proofs.lemmas.Bool.{eqb-true, not_from_false}
use Rattle.std.proofs.lemmas.List.{drop_more, length-map, map-append}
use Rattle.std.proofs.lemmas.List.Elements.{All-nil, All-cons, All-head, All-tail, All-append, All-contains, filter-append, filter_agree}
use Rattle.std.proofs.lemmas.Map.Views.{Contains-from_any}
use Rattle.std.proofs.lemmas.List.Sums.{length-filter}
use Rattle.std.proofs.lemmas.List.Sorted.{All-permutation, IsPermutation-map, IsPermutation-sym, length_permutation}
use Rattle.sql_values.specs.declared.value.Value.{Value}
use Rattle.sql_values.specs.declared.value.Value.TheVariants as value
use Rattle.sql_values.specs.Words.{word_of}
use Rattle.sql_values.specs.Stored.{ValueRow}
use Rattle.sql_values.specs.Truth.{is_null}
use Rattle.query_block.specs.Truth.{value_at}
use Rattle.btree_index.specs.Entries.{IndexEntry}
use Rattle.db_catalog.specs.Database.{DatabaseState, table_at}
use Rattle.db_catalog.specs.Indexes.{value_entry, entries_from, column_entries, index_at, row_of_entry}
use Rattle.btree_index.proofs.EntryOrder.{ordered_same}
use Rattle.db_catalog.proofs.Permutations.{andthen, equal, permuted}

-- the first of the rows from a place on is the row at that place
front : {X : Type 0} (all rest : List X) (first : ℕ) (x d : X) → x ∷ rest ≡ drop first all → (first < length all) × (get_or all first d ≡ x) × (rest ≡ drop (first + 1) all)
front all rest first x d is =
    let there : first < length all = omega (arith, simp length-drop at (ap length is)) in
    let both : x ∷ rest ≡ get_or all first d ∷ drop (first + 1) all = is ∙ drop_more all first d there in
    (there, cc, cc)

-- what is so of each entry
pub record IsEntry (texts : List (List ℕ)) (column : ℕ) (rows : List ValueRow) (entry : IndexEntry) : Type 0 where
  pub there : entry.1 < length rows
  pub some : is_null (value_at (get_or rows entry.1 []) column) ≡ false
  pub word : word_of texts (value_at (get_or rows entry.1 []) column) ≡ entry.0

-- whether the column of a row isn't NULL
abbrev pub has_value : (column : ℕ) → ValueRow → Bool
has_value column row = not (is_null (value_at row column))

module _ (texts : List (List ℕ)) (column : ℕ) (all : List ValueRow) where
  abbrev row_at_entry : IndexEntry → ValueRow
  row_at_entry entry = get_or all entry.1 []

  abbrev AreEntries : List IndexEntry → Type 0
  AreEntries = All (IsEntry texts column all)

  -- the entry of a value that stands in a row, if there is one, and its row
  one-entry : (number : ℕ) (v : Value) → number < length all → value_at (get_or all number []) column ≡ v → is_null v ≡ false → AreEntries ((word_of texts v, number) ∷ [])
  one-entry number v there is some =
      All-cons (IsEntry texts column all) (word_of texts v, number) [] (record { there = there; some = ap is_null is ∙ some; word = ap (word_of texts) is }) (All-nil (IsEntry texts column all))

  of-value : (number : ℕ) (v : Value) → number < length all → value_at (get_or all number []) column ≡ v
      → AreEntries (value_entry texts number v) × (map row_at_entry (value_entry texts number v) ≡ cond (not (is_null v)) (get_or all number [] ∷ []) [])
  of-value number value.Null there is = (All-nil (IsEntry texts column all), refl)
  of-value number (value.Int n) there is = (one-entry number (value.Int n) there is refl, refl)
  of-value number (value.Text t) there is = (one-entry number (value.Text t) there is refl, refl)

  of-rows : (first : ℕ) (rows : List ValueRow) → rows ≡ drop first all
      → AreEntries (entries_from texts column first rows) × (map row_at_entry (entries_from texts column first rows) ≡ filter (has_value column) rows)
  of-rows first [] is = (All-nil (IsEntry texts column all), refl)
  of-rows first (row ∷ rows) is =
      let (there, here, rest) = front all rows first row [] is in
      let one = of-value first (value_at row column) there (ap (λ (r : ValueRow). value_at r column) here) in
      let more = of-rows (first + 1) rows rest in (
        All-append (IsEntry texts column all) (value_entry texts first (value_at row column)) (entries_from texts column (first + 1) rows) one.0 more.0,
        map-append row_at_entry (value_entry texts first (value_at row column)) (entries_from texts column (first + 1) rows)
            ∙ (λ i. one.1 i ++ more.1 i) ∙ (λ i. cond (has_value column row) (here i ∷ []) [] ++ filter (has_value column) rows)
            ∙ sym (filter-append (has_value column) (row ∷ []) rows),
      )

-- a filter of values that come of others
pub filter-map : {A B : Type 0} (p : B → Bool) (q : A → Bool) (f : A → B) (xs : List A) → ((x : A) → p (f x) ≡ q x) → filter p (map f xs) ≡ map f (filter q xs)
filter-map p q f [] same = refl
filter-map p q f (x ∷ xs) same = grind (arith, same x, filter-map p q f xs same)

-- two tests, one after the other
pub both-tests : {X : Type 0} (p q : X → Bool) (xs : List X) → filter q (filter p xs) ≡ filter (λ x. p x && q x) xs
both-tests p q [] = refl
both-tests p q (x ∷ xs) = grind (arith, both-tests p q xs)

-- the first of them may be left out where it follows from the second
pub followed : (a b : Bool) → (b ≡ true → a ≡ true) → (a && b) ≡ b
followed a b follows = grind arith

wider-test : {X : Type 0} (p q : X → Bool) → ((x : X) → q x ≡ true → p x ≡ true) → (xs : List X) → filter q (filter p xs) ≡ filter q xs
wider-test p q follows xs = both-tests p q xs ∙ filter_agree (λ x. p x && q x) q (λ x. followed (p x) (q x) (follows x)) xs

module _ (database : DatabaseState) (table column : ℕ) where
  abbrev rows : List ValueRow
  rows = (table_at database table).rows

  -- each entry of an index is that of a row
  pub indexed : All (IsEntry database.texts column (table_at database table).rows) (index_at database table column)
  indexed =
      All-permutation (IsEntry database.texts column rows) (column_entries database table column) (index_at database table column)
      (ordered_same (column_entries database table column)) (of-rows database.texts column rows 0 rows refl).0

  -- the rows of those that pass a test are the rows with a value that pass it, in another order
  pub index-rows : (p : ValueRow → Bool)
      → IsPermutation (filter p (filter (has_value column) rows)) (map (row_of_entry database table) (filter (λ (e : IndexEntry). p (row_of_entry database table e)) (index_at database table column)))
  index-rows p =
      let q = λ (e : IndexEntry). p (row_of_entry database table e) in
      let entries = column_entries database table column in
      andthen (equal (ap (filter p) (sym (of-rows database.texts column rows 0 rows refl).1) ∙ filter-map p q (row_of_entry database table) entries (λ e. refl)))
      (IsPermutation-map (row_of_entry database table) _ _ (permuted (filter q) (filter-append q) (ordered_same entries)))

  -- so of those that are wanted those that are kept, where these are all wanted and have a value
  pub found-rows : (wanted kept : ValueRow → Bool) → ((row : ValueRow) → kept row ≡ true → (wanted row ≡ true) × (is_null (value_at row column) ≡ false))
      → IsPermutation (filter kept (map (row_of_entry database table) (filter (λ (e : IndexEntry). wanted (row_of_entry database table e)) (index_at database table column)))) (filter kept rows)
  found-rows wanted kept follows =
      let row = row_of_entry database table in
      let index = index_at database table column in
      let in_index = filter-map kept (λ (e : IndexEntry). kept (row e)) row (filter (λ (e : IndexEntry). wanted (row e)) index) (λ e. refl)
      ∙ ap (map row) (wider-test (λ (e : IndexEntry). wanted (row e)) (λ (e : IndexEntry). kept (row e)) (λ e is. (follows (row e) is).0) index) in
      let in_table = wider-test (has_value column) kept (λ r is. not_from_false _ (follows r is).1) rows in
      andthen (equal in_index) (IsPermutation-sym _ _ (andthen (equal (sym in_table)) (index-rows kept)))

  -- so many are read of an index, and there are so many entries
  pub count-read : (p : ValueRow → Bool) → length (filter (λ (e : IndexEntry). p (row_of_entry database table e)) (index_at database table column)) ≡ count_by (λ (row : ValueRow). has_value column row && p row) rows
  count-read p =
      sym (length-map (filter (λ (e : IndexEntry). p (row_of_entry database table e)) (index_at database table column)) (row_of_entry database table))
      ∙ length_permutation _ _ (index-rows p) ∙ ap length (both-tests (has_value column) p rows) ∙ length-filter (λ (row : ValueRow). has_value column row && p row) rows

  pub count-entries : length (column_entries database table column) ≡ count_by (has_value column) rows
  count-entries =
      sym (length-map (column_entries database table column) (row_of_entry database table)) ∙ ap length (of-rows database.texts column rows 0 rows refl).1 ∙ length-filter (has_value column) rows

pub filter-same : {X : Type 0} (p q : X → Bool) (xs : List X) → All (λ x. p x ≡ q x) xs → filter p xs ≡ filter q xs
filter-same p q [] same = refl
filter-same p q (x ∷ xs) same = grind (arith, All-head (λ x. p x ≡ q x) x xs same, filter-same p q xs (All-tail (λ x. p x ≡ q x) x xs same))

-- an indexed column of a relation that fits is an indexed column of its table
pub is-indexed : (indexes : List ℕ) (column : ℕ) (indexed : List ℕ) → All (λ (c : ℕ). Contains indexed c) indexes → IsTrue (list_any (λ other. nat_eq other column) indexes) → Contains indexed column
is-indexed indexes column indexed all is =
    All-contains (Contains indexed) indexes column all (Contains-from_any {eq = λ (a b : ℕ). nat_eq b a} (λ a b same. sym (eqb-true b a same)) column indexes is)
