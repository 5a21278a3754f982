-- Rows that are marked by tests one after another.
use Rattle.std.proofs.Common.{◌≡◌, ℕ, ◌+◌, ◌*◌, ◌^◌, ◌<◌, Bool, true, false, cond, List, [], ◌∷◌, length, get_or, map, refl, sym, subst, arith}
use Rattle.std.specs.List.{AllZip}
use Rattle.sql_values.specs.declared.column.ColumnType.{ColumnType}
use Rattle.sql_values.specs.Stored.{ValueRow}
use Rattle.query_block.specs.Conditions.{FilterTree}
use Rattle.narrow_columns.specs.Marks.{marks_of}
use Rattle.db_catalog.specs.Database.{DatabaseState}
use Rattle.row_filter.specs.declared.union.RangeUnion.{RangeUnion}
use Rattle.row_filter.specs.Unions.{IsUnionIn}
use Rattle.row_filter.proofs.Tests.{any, zip-at}
use Rattle.row_filter.specs.RowFilters.{AreMarks, FilterRanges, IsRowFilter, passes_all}

-- all of some rows
pub all-marked : {X : Type 0} (xs : List X) → marks_of (map (λ _. true) xs) + 1 ≡ 2 ^ length xs
all-marked [] = refl
all-marked (x ∷ xs) = grind (arith, all-marked xs)

-- of rows of which none is marked none is by a test that fewer pass
none-of : (a b : Bool) (m n : ℕ) → (b ≡ true → a ≡ true) → (m ≡ 0 → n ≡ 0) → cond a 1 0 + 2 * m ≡ 0 → cond b 1 0 + 2 * n ≡ 0
none-of true b m n fewer rest none = absurd (omega (arith, none))
none-of false true m n fewer rest none = cc (fewer refl)
none-of false false m n fewer rest none =
    let others : n ≡ 0 = rest (omega (arith, none)) in
    omega (arith, others)

pub none-marked : {X : Type 0} (p q : X → Bool) (xs : List X) → ((x : X) → q x ≡ true → p x ≡ true) → marks_of (map p xs) ≡ 0 → marks_of (map q xs) ≡ 0
none-marked p q [] fewer none = refl
none-marked p q (x ∷ xs) fewer none = none-of (p x) (q x) (marks_of (map p xs)) (marks_of (map q xs)) (fewer x) (none-marked p q xs fewer) none

-- ---- the tests of a filter in a table

module _ (database : DatabaseState) (table : ℕ) (tests : List (ValueRow → Bool)) where
  pub seen : (view now : FilterRanges) → view ≡ now → AllZip (IsUnionIn database table) tests now.unions → AllZip (IsUnionIn database table) tests view.unions
  seen view now is told = subst (λ (f : FilterRanges). AllZip (IsUnionIn database table) tests f.unions) (sym is) told

  pub union-at : (unions : List RangeUnion) (i : ℕ) → AllZip (IsUnionIn database table) tests unions → i < length unions
      → IsUnionIn database table (get_or tests i any) (get_or unions i (record { regions = []; count = 0; exact = false }))
  union-at unions i told below = zip-at (IsUnionIn database table) tests unions i any (record { regions = []; count = 0; exact = false }) told below

-- so marks by all tests of a filter are its marks
pub filter-marks : (texts : List (List ℕ)) (kinds : List ColumnType) (conditions : List FilterTree) (filter : FilterRanges) (is : IsRowFilter texts kinds conditions filter) (rows : List ValueRow) (marks : ℕ)
    → marks ≡ marks_of (map (passes_all is.tests) rows) → AreMarks conditions filter.exact rows marks
filter-marks texts kinds conditions filter is rows marks are = record { test = passes_all is.tests; none_missed = is.none_missed; exact = is.exact; are = are }
