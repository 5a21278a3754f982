-- Lists of tests: zipped with ranges, one more, and the first of them.
use Rattle.std.proofs.Common.{◌≡◌, ℕ, zero, suc, ◌+◌, ◌<◌, ◌&&◌, ◌||◌, Bool, true, false, List, [], ◌∷◌, ◌++◌, length, get_or, map, set, take, bit_and, bit_or, refl, sym, ap, ◌∙◌, arith}
use Rattle.std.specs.List.{AllZip}
use Rattle.std.proofs.lemmas.List.{length-map, set-get_or, take_more}
use Rattle.sql_values.specs.declared.column.ColumnDef.{ColumnDef}
use Rattle.sql_values.specs.Stored.{ValueRow}
use Rattle.narrow_columns.specs.Marks.{marks_of}
use Rattle.heap_pages.proofs.MarkedRows.{marks_of-and, marks_of-or}
use Rattle.db_catalog.specs.Database.{DatabaseState, table_at}
use Rattle.db_catalog.specs.Marks.{IsWordsIn}
use Rattle.db_catalog.specs.declared.column_range.ColumnRange.{ColumnRange}
use Rattle.row_filter.specs.declared.region.Region.{Region}
use Rattle.row_filter.specs.declared.region.Region.TheVariants.{Every}
use Rattle.row_filter.specs.Regions.{IsRegionIn}
use Rattle.row_filter.specs.RowFilters.{passes_all}
use Rattle.row_filter.specs.Unions.{passes_any}
use Rattle.row_filter.proofs.OrParts.{or-first}
use Rattle.row_filter.proofs.AndParts.{and-first}

-- ---- zipped

pub zip-push : {A B : Type 0} (R : A → B → Type 0) (xs : List A) (ys : List B) (x : A) (y : B) → AllZip R xs ys → R x y → AllZip R (xs ++ x ∷ []) (ys ++ y ∷ [])
zip-push R [] [] x y all here = (here, tt)
zip-push R [] (z ∷ ys) x y all here = absurd all
zip-push R (z ∷ xs) [] x y all here = absurd all
zip-push R (a ∷ xs) (b ∷ ys) x y all here = (all.0, zip-push R xs ys x y all.1 here)

pub zip-at : {A B : Type 0} (R : A → B → Type 0) (xs : List A) (ys : List B) (i : ℕ) (d : A) (e : B) → AllZip R xs ys → i < length ys → R (get_or xs i d) (get_or ys i e)
zip-at R [] [] i d e all below = absurd (omega (arith, below))
zip-at R [] (y ∷ ys) i d e all below = absurd all
zip-at R (x ∷ xs) [] i d e all below = absurd all
zip-at R (x ∷ xs) (y ∷ ys) zero d e all below = all.0
zip-at R (x ∷ xs) (y ∷ ys) (suc i) d e all below = zip-at R xs ys i d e all.1 (omega (arith, below))

pub zip-length : {A B : Type 0} (R : A → B → Type 0) (xs : List A) (ys : List B) → AllZip R xs ys → length xs ≡ length ys
zip-length R [] [] all = refl
zip-length R [] (y ∷ ys) all = absurd all
zip-length R (x ∷ xs) [] all = absurd all
zip-length R (x ∷ xs) (y ∷ ys) all = grind (arith, zip-length R xs ys all.1)

-- ---- a test more

pub all-more : (tests : List (ValueRow → Bool)) (test : ValueRow → Bool) (row : ValueRow) → passes_all (tests ++ test ∷ []) row ≡ (passes_all tests row && test row)
all-more [] test row = grind arith
all-more (one ∷ tests) test row = grind (arith, all-more tests test row)

pub any-more : (tests : List (ValueRow → Bool)) (test : ValueRow → Bool) (row : ValueRow) → passes_any (tests ++ test ∷ []) row ≡ (passes_any tests row || test row)
any-more [] test row = grind arith
any-more (one ∷ tests) test row = grind (arith, any-more tests test row)

-- ---- a test instead of another

or-turned : (a b : Bool) → (a || b) ≡ ((false || b) || a)
or-turned a b = grind arith

pub and-turned : (a b c : Bool) → ((a && b) && c) ≡ ((a && c) && b)
and-turned a b c = grind arith

abbrev none : ValueRow → Bool
none row = false

-- whether a row passes one of the other tests
abbrev pub passes_others : List (ValueRow → Bool) → (i : ℕ) → ValueRow → Bool
passes_others tests i row = passes_any (set tests i none) row

pub any-set : (tests : List (ValueRow → Bool)) (i : ℕ) (test : ValueRow → Bool) (row : ValueRow) → i < length tests → passes_any (set tests i test) row ≡ (passes_others tests i row || test row)
any-set [] i test row below = absurd (omega (arith, below))
any-set (one ∷ tests) zero test row below = or-turned (test row) (passes_any tests row)
any-set (one ∷ tests) (suc i) test row below =
    ap (λ b. one row || b) (any-set tests i test row (omega (arith, below))) ∙ or-first (one row) (passes_others tests i row) (test row)

pub any-get : (tests : List (ValueRow → Bool)) (i : ℕ) (d : ValueRow → Bool) (row : ValueRow) → i < length tests → passes_any tests row ≡ (passes_others tests i row || get_or tests i d row)
any-get tests i d row below = ap (λ (some : List (ValueRow → Bool)). passes_any some row) (sym (set-get_or tests i d)) ∙ any-set tests i (get_or tests i d) row below

-- narrowed to the rows that pass another test too
pub all-narrowed : (tests : List (ValueRow → Bool)) (i : ℕ) (d test : ValueRow → Bool) (row : ValueRow) → i < length tests
    → passes_all (set tests i (λ (one : ValueRow). get_or tests i d one && test one)) row ≡ (passes_all tests row && test row)
all-narrowed [] i d test row below = absurd (omega (arith, below))
all-narrowed (one ∷ tests) zero d test row below = and-turned (one row) (test row) (passes_all tests row)
all-narrowed (one ∷ tests) (suc i) d test row below =
    ap (λ b. one row && b) (all-narrowed tests i d test row (omega (arith, below))) ∙ and-first (one row) (passes_all tests row) (test row)

pub zip-set : {A B : Type 0} (R : A → B → Type 0) (xs : List A) (ys : List B) (i : ℕ) (x : A) (y : B) → AllZip R xs ys → R x y → AllZip R (set xs i x) (set ys i y)
zip-set R [] [] i x y all here = all
zip-set R [] (z ∷ ys) i x y all here = absurd all
zip-set R (z ∷ xs) [] i x y all here = absurd all
zip-set R (a ∷ xs) (b ∷ ys) zero x y all here = (here, all.1)
zip-set R (a ∷ xs) (b ∷ ys) (suc i) x y all here = (all.0, zip-set R xs ys i x y all.1 here)

-- what passes all of some tests passes the first of them
both : (a b : Bool) → (a && b) ≡ true → (a ≡ true) × (b ≡ true)
both a b met = (grind arith, grind arith)

pub first-pass : (tests : List (ValueRow → Bool)) (i : ℕ) (row : ValueRow) → passes_all tests row ≡ true → passes_all (take i tests) row ≡ true
first-pass [] zero row met = refl
first-pass [] (suc i) row met = refl
first-pass (one ∷ tests) zero row met = refl
first-pass (one ∷ tests) (suc i) row met =
    let each = both (one row) (passes_all tests row) met in
    ap (λ b. b && passes_all (take i tests) row) each.0 ∙ first-pass tests i row each.1

-- a single one
pub only-test : (test : ValueRow → Bool) (row : ValueRow) → passes_any (test ∷ []) row ≡ test row
only-test test row = grind arith

pub one-test : (tests : List (ValueRow → Bool)) (d : ValueRow → Bool) (row : ValueRow) → length tests ≡ 1 → passes_any tests row ≡ get_or tests 0 d row
one-test [] d row one = cc
one-test (test ∷ []) d row one = grind arith
one-test (test ∷ other ∷ tests) d row one = absurd (omega (arith, one))

pub one-of-all : (tests : List (ValueRow → Bool)) (d : ValueRow → Bool) (row : ValueRow) → length tests ≡ 1 → passes_all tests row ≡ get_or tests 0 d row
one-of-all [] d row one = cc
one-of-all (test ∷ []) d row one = grind arith
one-of-all (test ∷ other ∷ tests) d row one = absurd (omega (arith, one))

-- ---- marks by a test more

module _ (tests : List (ValueRow → Bool)) (i : ℕ) (d : ValueRow → Bool) (rows : List ValueRow) (marks more : ℕ) (below : i < length tests) (is : more ≡ marks_of (map (get_or tests i d) rows)) where
  pub all-marked-more : marks ≡ marks_of (map (passes_all (take i tests)) rows) → bit_and marks more ≡ marks_of (map (passes_all (take (i + 1) tests)) rows)
  all-marked-more so_far =
      let one = get_or tests i d in
      let same : (row : ValueRow) → (passes_all (take i tests) row && one row) ≡ passes_all (take (i + 1) tests) row =
      λ row. sym (all-more (take i tests) one row) ∙ ap (λ (some : List (ValueRow → Bool)). passes_all some row) (sym (take_more tests i d below)) in
      (λ k. bit_and (so_far k) (is k)) ∙ sym (marks_of-and (passes_all (take i tests)) one rows) ∙ (λ k. marks_of (map (λ row. same row k) rows))

  pub any-marked-more : marks ≡ marks_of (map (passes_any (take i tests)) rows) → bit_or marks more ≡ marks_of (map (passes_any (take (i + 1) tests)) rows)
  any-marked-more so_far =
      let one = get_or tests i d in
      let same : (row : ValueRow) → (passes_any (take i tests) row || one row) ≡ passes_any (take (i + 1) tests) row =
      λ row. sym (any-more (take i tests) one row) ∙ ap (λ (some : List (ValueRow → Bool)). passes_any some row) (sym (take_more tests i d below)) in
      (λ k. bit_or (so_far k) (is k)) ∙ sym (marks_of-or (passes_any (take i tests)) one rows) ∙ (λ k. marks_of (map (λ row. same row k) rows))

-- ---- the words of a test in a table

pub any : ValueRow → Bool
any row = true

module _ (database : DatabaseState) (table : ℕ) (tests : List (ValueRow → Bool)) (regions : List Region) (told : AllZip (IsRegionIn database table) tests regions) (i : ℕ) (below : i < length regions) where
  pub region-at : IsRegionIn database table (get_or tests i any) (get_or regions i Every)
  region-at = zip-at (IsRegionIn database table) tests regions i any Every told below

module _ (database : DatabaseState) (table : ℕ) (test : ValueRow → Bool) (found : ColumnRange) (told : IsWordsIn database table test found) where
  pub column-there : found.column < length (table_at database table).columns
  column-there = omega (arith, told.there, length-map (table_at database table).columns (λ (column : ColumnDef). column.kind))
