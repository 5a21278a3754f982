-- Regions and unions that hold each row that passes a test, and maybe others.
use Rattle.std.proofs.Common.{◌≡◌, ℕ, ◌+◌, ◌<◌, ◌&&◌, ◌||◌, Bool, true, false, List, [], ◌∷◌, ◌++◌, length, get_or, take, set, true≢false, refl, sym, ap, subst, ◌∙◌, arith}
use Rattle.std.specs.List.{AllZip}
use Rattle.std.proofs.lemmas.List.{get_or-take, length-set, length-take, take_more_set}
use Rattle.std.proofs.Math.Seq.{take-set-lt}
use Rattle.sql_values.specs.declared.column.ColumnType.{ColumnType}
use Rattle.sql_values.specs.Stored.{ValueRow}
use Rattle.row_filter.specs.declared.known_region.KnownRegion.{KnownRegion}
use Rattle.row_filter.specs.declared.region.Region.TheVariants.{Every}
use Rattle.row_filter.specs.declared.union.RangeUnion.{RangeUnion}
use Rattle.row_filter.specs.Regions.{Covers, IsKnownRegion, IsRegionOf}
use Rattle.row_filter.specs.Unions.{IsUnionCover, IsUnionOf}
use Rattle.row_filter.proofs.OrParts.{or-first}
use Rattle.row_filter.proofs.Tests.{any, any-get, any-more, any-set, passes_others, zip-at, zip-length, zip-push, zip-set}

-- ---- of two tests

abbrev pub either : (test other : ValueRow → Bool) → ValueRow → Bool
either test other row = test row || other row

abbrev pub both_of : (test other : ValueRow → Bool) → ValueRow → Bool
both_of test other row = test row && other row

-- exactly itself
pub itself : (is_exact : Bool) (test : ValueRow → Bool) → Covers is_exact test test
itself is_exact test = record { none_missed = λ row met. met; exact = λ all row. refl }

one-of : (t m p q : Bool) → (t ≡ true → p ≡ true) → (m ≡ true → q ≡ true) → (t || m) ≡ true → (p || q) ≡ true
one-of true m p q first second met = ap (λ b. b || q) (first refl)
one-of false m true q first second met = refl
one-of false m false q first second met = second met

pub first-true : (a b : Bool) → (a && b) ≡ true → a ≡ true
first-true true b met = refl
first-true false b met = met

pub second-true : (a b : Bool) → (a && b) ≡ true → b ≡ true
second-true true b met = met
second-true false b met = absurd (true≢false (sym met))

pub both-true : (a b : Bool) → a ≡ true → b ≡ true → (a && b) ≡ true
both-true a b first second = grind (arith, first, second)

pub either-covers : (a b : Bool) (test other passed more : ValueRow → Bool) → Covers a test passed → Covers b other more → Covers (a && b) (either test other) (either passed more)
either-covers a b test other passed more first second = record {
  none_missed = λ row met. one-of (test row) (other row) (passed row) (more row) (first.none_missed row) (second.none_missed row) met;
  exact = λ all row. ap (λ b. b || more row) (first.exact (first-true a b all) row) ∙ ap (λ b. test row || b) (second.exact (second-true a b all) row);
}

pub both-cover : (a : Bool) (test other passed : ValueRow → Bool) → Covers a test passed → Covers a (both_of test other) (both_of passed other)
both-cover a test other passed first = record {
  none_missed = λ row met. both-true (passed row) (other row) (first.none_missed row (first-true (test row) (other row) met)) (second-true (test row) (other row) met);
  exact = λ all row. ap (λ b. b && other row) (first.exact all row);
}

-- a condition more that isn't told
pub first-covers : (a : Bool) (test other passed : ValueRow → Bool) → Covers a test passed → Covers false (both_of test other) passed
first-covers a test other passed first = record {
  none_missed = λ row met. first.none_missed row (first-true (test row) (other row) met);
  exact = λ all row. absurd (true≢false (sym all));
}

pub same-covers : (a : Bool) (test other passed : ValueRow → Bool) → Covers a test passed → ((row : ValueRow) → test row ≡ other row) → Covers a other passed
same-covers a test other passed is same = record {
  none_missed = λ row met. is.none_missed row (same row ∙ met);
  exact = λ all row. is.exact all row ∙ same row;
}

-- ---- unions

-- a row that passes one of several tests, of which one holds more from then on
still : (t o r u j : Bool) → (t ≡ true → (r || u) ≡ true) → ((u || o) ≡ true → j ≡ true) → (t || o) ≡ true → (r || j) ≡ true
still t o true u j first second met = refl
still t o false true j first second met = second refl
still true o false false j first second met = absurd (true≢false (sym (first refl)))
still false o false false j first second met = second met

module _ (texts : List (List ℕ)) (kinds : List ColumnType) where
  -- a union tells any test that the same rows pass
  pub same-union : (test other : ValueRow → Bool) (union : RangeUnion) → IsUnionOf texts kinds test union → ((row : ValueRow) → test row ≡ other row) → IsUnionOf texts kinds other union
  same-union test other union is same = record { room = is.room; few = is.few; tests = is.tests; told = is.told; any = λ row. is.any row ∙ same row }

  pub same-cover : (test other : ValueRow → Bool) (union : RangeUnion) → IsUnionCover texts kinds test union → ((row : ValueRow) → test row ≡ other row) → IsUnionCover texts kinds other union
  same-cover test other union is same = record { passed = is.passed; told = is.told; covers = same-covers union.exact test other is.passed is.covers same }

  pub same-known : (test other : ValueRow → Bool) (known : KnownRegion) → IsKnownRegion texts kinds test known → ((row : ValueRow) → test row ≡ other row) → IsKnownRegion texts kinds other known
  same-known test other known is same = record { passed = is.passed; told = is.told; covers = same-covers known.exact test other is.passed is.covers same }

  -- with a region more
  pub pushed : (test other : ValueRow → Bool) (old new : RangeUnion) (known : KnownRegion) → old.count < 16 → new.regions ≡ set old.regions old.count known.region → new.count ≡ old.count + 1
      → new.exact ≡ (old.exact && known.exact) → IsKnownRegion texts kinds other known → IsUnionCover texts kinds test old → IsUnionCover texts kinds (either test other) new
  pushed test other old new known few regions count exact more is =
      let tests = is.told.tests ++ more.passed ∷ [] in
      let room : old.count < length old.regions = omega (arith, is.told.room, few) in
      let longer : take new.count new.regions ≡ take old.count old.regions ++ known.region ∷ [] =
      (λ k. take (count k) (regions k)) ∙ take_more_set old.regions old.count known.region room in
      record {
        passed = either is.passed more.passed;
        told = record {
          room = ap length regions ∙ length-set old.regions old.count known.region ∙ is.told.room;
          few = omega (arith, count, few);
          tests = tests;
          told = subst (AllZip (IsRegionOf texts kinds) tests) (sym longer)
              (zip-push (IsRegionOf texts kinds) is.told.tests (take old.count old.regions) more.passed known.region is.told.told more.told);
          any = λ row. any-more is.told.tests more.passed row ∙ ap (λ b. b || more.passed row) (is.told.any row);
        };
        covers = subst (λ b. Covers b (either test other) (either is.passed more.passed)) (sym exact) (either-covers old.exact known.exact test other is.passed more.passed is.covers more.covers);
      }

  -- with a region that holds more in place of one
  pub put-in : (test other : ValueRow → Bool) (old new : RangeUnion) (place : ℕ) (known : KnownRegion) → place < old.count → new.regions ≡ set old.regions place known.region → new.count ≡ old.count
      → new.exact ≡ (old.exact && known.exact)
      → ((one : ValueRow → Bool) → IsRegionOf texts kinds one (get_or old.regions place Every) → IsKnownRegion texts kinds (either one other) known)
      → IsUnionCover texts kinds test old → IsUnionCover texts kinds (either test other) new
  put-in test other old new place known there regions count exact joins is =
      let tests = is.told.tests in
      let one = get_or tests place any in
      let own = take old.count old.regions in
      let long : length own ≡ old.count = omega (arith, length-take old.count old.regions, is.told.room, is.told.few) in
      let inside : place < length tests = omega (arith, zip-length (IsRegionOf texts kinds) tests own is.told.told, long, there) in
      let here : IsRegionOf texts kinds one (get_or old.regions place Every) =
      subst (IsRegionOf texts kinds one) (get_or-take old.count old.regions place Every there) (zip-at (IsRegionOf texts kinds) tests own place any Every is.told.told (omega (arith, long, there))) in
      let more = joins one here in
      let same : take new.count new.regions ≡ set own place known.region = (λ k. take (count k) (regions k)) ∙ take-set-lt old.count old.regions place known.region there in
      let before : (row : ValueRow) → is.passed row ≡ (passes_others tests place row || one row) = λ row. sym (is.told.any row) ∙ any-get tests place any row inside in
      record {
        passed = either (passes_others tests place) more.passed;
        told = record {
          room = ap length regions ∙ length-set old.regions place known.region ∙ is.told.room;
          few = omega (arith, count, is.told.few);
          tests = set tests place more.passed;
          told = subst (AllZip (IsRegionOf texts kinds) (set tests place more.passed)) (sym same) (zip-set (IsRegionOf texts kinds) tests own place more.passed known.region is.told.told more.told);
          any = λ row. any-set tests place more.passed row inside;
        };
        covers = subst (λ b. Covers b (either test other) (either (passes_others tests place) more.passed)) (sym exact) (record {
          none_missed = λ row met.
              still (test row) (other row) (passes_others tests place row) (one row) (more.passed row) (λ passes. sym (before row) ∙ is.covers.none_missed row passes) (more.covers.none_missed row) met;
          exact = λ all row.
              ap (λ b. passes_others tests place row || b) (more.covers.exact (second-true old.exact known.exact all) row)
              ∙ or-first (passes_others tests place row) (one row) (other row)
              ∙ ap (λ b. b || other row) (sym (before row) ∙ is.covers.exact (first-true old.exact known.exact all) row);
        });
      }
