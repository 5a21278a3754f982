-- The words of one column in the rows that meet a condition, as a list that is searched, and how a marked row is asked.
use Rattle.std.specs.Prelude.{◌≡◌, ◌⊎◌, ℕ, ℤ, pos, ◌<◌, ◌||◌, Bool, FitsSigned, IfSome, IsTrue, List, [], Option, length, slice_index_or}
use Rattle.std.specs.Int.{w64}
use Rattle.std.specs.List.{AllZip, list_any}
use Rattle.std.specs.List.Sorted.{IsSorted}
use Rattle.std.specs.Ordering.{int_cmp, int_eq}
use Rattle.sql_values.specs.declared.column.ColumnType.{ColumnType}
use Rattle.sql_values.specs.Stored.{ValueRow, values_of}
use Rattle.query_block.specs.Conditions.{FilterTree}
use Rattle.query_block.specs.Meaning.{is_true}
use Rattle.query_block.specs.Truth.{truth_of}
use Rattle.db_catalog.specs.ColumnRanges.{AreStored}
use Rattle.row_filter.specs.declared.in_list.InList.{InList}
use Rattle.row_filter.specs.declared.recheck.ConditionRecheck.{ConditionRecheck}
use Rattle.row_filter.specs.declared.recheck.FilterRecheck.{FilterRecheck}

-- of rows that may stand in columns of these kinds exactly those pass a test whose word in the column is in the list
pub record IsInListOf (texts : List (List ℕ)) (kinds : List ColumnType) (test : ValueRow → Bool) (list : InList) : Type 0 where
  pub there : list.column < length kinds
  pub tells : (words : List ℤ) → AreStored texts kinds words → FitsSigned w64 (slice_index_or words list.column (pos 0))
      → list_any (int_eq (slice_index_or words list.column (pos 0))) list.words.items ≡ test (values_of texts kinds words)

-- it also tells the rows that pass another test, if that is added
abbrev pub AddsToList : List (List ℕ) → List ColumnType → (ValueRow → Bool) → (old new : InList) → (added : Bool) → Type 0
AddsToList texts kinds more old new added =
    (test : ValueRow → Bool) → IsTrue added → IsInListOf texts kinds test old → IsInListOf texts kinds (λ row. test row || more row) new

-- and its words are in order
pub record IsSortedListOf (texts : List (List ℕ)) (kinds : List ColumnType) (test : ValueRow → Bool) (list : InList) : Type 0 where
  pub listed : IsInListOf texts kinds test list
  pub sorted : IsSorted int_cmp list.words.items

-- the list of a condition, if it is known
abbrev pub IsKnownList : List (List ℕ) → List ColumnType → FilterTree → Option InList → Type 0
IsKnownList texts kinds tree known = IfSome known (IsSortedListOf texts kinds (λ row. is_true (truth_of tree row)))

-- a condition that is asked by its list, or by itself
abbrev pub IsConditionRecheck : List (List ℕ) → List ColumnType → FilterTree → ConditionRecheck → Type 0
IsConditionRecheck texts kinds tree recheck = IsKnownList texts kinds tree recheck.list

-- one for each condition of a filter, or none, where each is asked by itself
abbrev pub IsFilterRecheck : List (List ℕ) → List ColumnType → List FilterTree → FilterRecheck → Type 0
IsFilterRecheck texts kinds trees recheck =
    (recheck.conditions.items ≡ []) ⊎ AllZip (IsConditionRecheck texts kinds) trees recheck.conditions.items
