-- Lists of words: of a test that says the same of each row, of no word, and in another order.
use Rattle.std.proofs.Common.{◌≡◌, ℕ, ℤ, pos, ◌<◌, Bool, false, FitsSigned, w64, List, [], length, sym, ap, subst, ◌∙◌, IsPermutation}
use Rattle.std.specs.List.{list_any}
use Rattle.std.specs.Ordering.{int_eq}
use Rattle.std.specs.Prelude.{slice_index_or}
use Rattle.std.proofs.lemmas.List.Sorted.{list_any-IsPermutation}
use Rattle.sql_values.specs.declared.column.ColumnType.{ColumnType}
use Rattle.sql_values.specs.Stored.{ValueRow, values_of}
use Rattle.db_catalog.specs.ColumnRanges.{AreStored}
use Rattle.row_filter.specs.declared.in_list.InList.{InList}
use Rattle.row_filter.specs.InLists.{IsInListOf}

module _ (texts : List (List ℕ)) (kinds : List ColumnType) where
  pub same-list : (test other : ValueRow → Bool) (list : InList) → IsInListOf texts kinds test list → ((row : ValueRow) → test row ≡ other row) → IsInListOf texts kinds other list
  same-list test other list is same = record {
    there = is.there;
    tells = λ words stored fits. is.tells words stored fits ∙ same (values_of texts kinds words);
  }

  -- no word tells no row
  pub no-words : (list : InList) → list.column < length kinds → list.words.items ≡ [] → IsInListOf texts kinds (λ row. false) list
  no-words list there none = record {
    there = there;
    tells = λ words stored fits. ap (list_any (int_eq (slice_index_or words list.column (pos 0)))) none;
  }

  -- the order doesn't matter
  pub in-order : (test : ValueRow → Bool) (old new : InList) → new.column ≡ old.column → IsPermutation old.words.items new.words.items → IsInListOf texts kinds test old → IsInListOf texts kinds test new
  in-order test old new column words is =
      let told : (row : List ℤ) → AreStored texts kinds row → FitsSigned w64 (slice_index_or row old.column (pos 0)) → list_any (int_eq (slice_index_or row old.column (pos 0))) new.words.items ≡ test (values_of texts kinds row) =
      λ row stored fits. sym (list_any-IsPermutation (int_eq (slice_index_or row old.column (pos 0))) old.words.items new.words.items words) ∙ is.tells row stored fits in
      record {
        there = subst (λ at. at < length kinds) (sym column) is.there;
        tells = subst (λ (at : ℕ). (row : List ℤ) → AreStored texts kinds row → FitsSigned w64 (slice_index_or row at (pos 0)) → list_any (int_eq (slice_index_or row at (pos 0))) new.words.items ≡ test (values_of texts kinds row)) (sym column) told;
      }
