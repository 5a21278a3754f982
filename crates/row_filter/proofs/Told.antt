-- A filter of which ranges tell one condition more, or one less than all.
use Rattle.std.proofs.Common.{◌≡◌, ◌&&◌, ℕ, Bool, true, false, List, [], ◌∷◌, ◌++◌, refl, sym, ap, subst, ◌∙◌, inl, inr, arith}
use Rattle.std.specs.Prelude.{Some}
use Rattle.std.specs.List.{AllZip}
use Rattle.sql_values.specs.declared.column.ColumnType.{ColumnType}
use Rattle.sql_values.specs.Stored.{ValueRow}
use Rattle.query_block.specs.Conditions.{FilterTree}
use Rattle.query_block.specs.Meaning.{is_true, meets_filter}
use Rattle.query_block.specs.Parameters.{fixed_of, is_open}
use Rattle.query_block.specs.Truth.{truth_of}
use Rattle.row_filter.specs.declared.union.RangeUnion.{RangeUnion}
use Rattle.row_filter.specs.Unions.{IsKnownUnion, IsUnionOf}
use Rattle.row_filter.specs.RowFilters.{FilterRanges, HasMore, IsRowFilter, PutsUnion, passes_all}
use Rattle.row_filter.proofs.Covers.{both-true}
use Rattle.row_filter.proofs.Fixed.{fixed-more, open-more}

both : (a b c : Bool) → a ≡ (b && c) → a ≡ true → (b ≡ true) × (c ≡ true)
both a b c is met = (grind arith, grind arith)

module _ (texts : List (List ℕ)) (kinds : List ColumnType) (conditions : List FilterTree) (tree : FilterTree) (old : FilterRanges) (is : IsRowFilter texts kinds conditions old) where
  -- a condition with a parameter is left out
  pub left-out : is_open tree ≡ true → IsRowFilter texts kinds (conditions ++ tree ∷ []) old
  left-out opened =
      let same = open-more conditions tree opened in
      record {
        tests = is.tests;
        told = is.told;
        none_missed = λ row met. is.none_missed row (ap (λ (trees : List FilterTree). meets_filter trees row) (sym same) ∙ met);
        exact = λ all row. is.exact all row ∙ ap (λ (trees : List FilterTree). meets_filter trees row) (sym same);
      }

  -- one that no range tells has to be asked of each row
  pub asked : (new : FilterRanges) → is_open tree ≡ false → new.unions ≡ old.unions → new.exact ≡ false → IsRowFilter texts kinds (conditions ++ tree ∷ []) new
  asked new fixed unions inexact = record {
    tests = is.tests;
    told = subst (AllZip (IsUnionOf texts kinds) is.tests) (sym unions) is.told;
    none_missed = λ row met. is.none_missed row ((both _ (meets_filter (fixed_of conditions) row) (is_true (truth_of tree row)) (fixed-more conditions tree row fixed) met).0);
    exact = λ all row. cc;
  }

  -- one that a range tells
  told : (before new : FilterRanges) (union : RangeUnion) → is_open tree ≡ false → before.unions ≡ old.unions → before.exact ≡ (old.exact && union.exact) → HasMore union before new
      → IsKnownUnion texts kinds tree (Some union) → IsRowFilter texts kinds (conditions ++ tree ∷ []) new
  told before new union fixed unions exact more known =
      let test : ValueRow → Bool = λ row. is_true (truth_of tree row) in
      let all = more.tells texts kinds (passes_all is.tests) known.passed
      (record { tests = is.tests; told = subst (AllZip (IsUnionOf texts kinds) is.tests) (sym unions) is.told; all = λ row. refl }) known.told in
      record {
        tests = all.tests;
        told = all.told;
        none_missed = λ row met.
            let each = both _ (meets_filter (fixed_of conditions) row) (test row) (fixed-more conditions tree row fixed) met in
            all.all row ∙ both-true (passes_all is.tests row) (known.passed row) (is.none_missed row each.0) (known.covers.none_missed row each.1);
        exact = λ whole row.
            let each = both _ old.exact union.exact (more.exact ∙ exact) whole in
            all.all row
            ∙ ap (λ b. b && known.passed row) (is.exact each.0 row)
            ∙ ap (λ b. meets_filter (fixed_of conditions) row && b) (known.covers.exact each.1 row)
            ∙ sym (fixed-more conditions tree row fixed);
      }

  pub put : (before new : FilterRanges) (union : RangeUnion) → is_open tree ≡ false → before.unions ≡ old.unions → before.exact ≡ (old.exact && union.exact) → PutsUnion union before new
      → IsKnownUnion texts kinds tree (Some union) → IsRowFilter texts kinds (conditions ++ tree ∷ []) new
  put before new union fixed unions exact puts known =
      elim puts [ inl more ↦ told before new union fixed unions exact more known | inr none ↦ asked new fixed (none.unions ∙ unions) none.inexact ]
