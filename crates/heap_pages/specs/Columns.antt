-- The words of a table's columns, each column narrow and by itself, beside the rows.
use Rattle.std.specs.Prelude.{◌≡◌, ℕ, ℤ, ◌-◌, ◌<◌, ◌≤◌, ◌≤ℤ◌, ◌++◌, List, All, FitsSigned, length, slice_index_or}
use Rattle.std.specs.Int.{w64}
use Rattle.narrow_columns.specs.Codes.{IsWithin}
use Rattle.narrow_columns.specs.Kept.{ColumnState, IsTaken}
use Rattle.narrow_columns.specs.Rows.{words_of_column}
use Rattle.narrow_columns.specs.declared.extent.Extent.{Extent}
use Rattle.heap_pages.specs.Layout.{IsLaidOut, PagesState}

-- the columns that are there, from the first on, have the words of so many rows of one width
pub record AreColumnsOf (width rows : ℕ) (words : List ℤ) (columns : List ColumnState) : Type 0 where
  pub few : length columns ≤ width
  pub each : (number : ℕ) → (d : ColumnState) → number < length columns
      → (slice_index_or columns number d).words ≡ words_of_column width number rows words

-- a column has room for words, and takes each of them
pub record HasRoomFor (words : List ℤ) (column : ColumnState) : Type 0 where
  pub room : length words ≤ column.room
  pub taken : All (IsTaken column) words

-- each column has room for its words of so many rows
abbrev pub HaveRoomFor : (width rows : ℕ) → List ℤ → List ColumnState → Type 0
HaveRoomFor width rows words columns =
    (number : ℕ) → (d : ColumnState) → number < length columns
    → HasRoomFor (words_of_column width number rows words) (slice_index_or columns number d)

-- each extent is from which word up to which the words of a column lie, in so many rows
abbrev pub AreExtents : (width rows : ℕ) → List ℤ → List Extent → Type 0
AreExtents width rows words extents =
    (number : ℕ) → (d : Extent) → number < width
    → let extent = slice_index_or extents number d in All (IsWithin extent.least extent.greatest) (words_of_column width number rows words)

-- an extent reaches as far as another, to both sides
pub record IsWiderThan (other extent : Extent) : Type 0 where
  pub below : extent.least ≤ℤ other.least
  pub above : other.greatest ≤ℤ extent.greatest

-- words behind those of a column, which had room for them
abbrev pub with_words : List ℤ → ColumnState → ColumnState
with_words words column = record column { words = column.words ++ words; room = column.room - length words }

-- the parts of a heap: its rows are laid out on pages, their words have 64 bits, and the columns have them too
pub record AreHeapParts (columns per_page reciprocal rows spare : ℕ) (pages : PagesState) (kept : List ColumnState) : Type 0 where
  pub laid : IsLaidOut columns per_page reciprocal rows spare pages
  pub fit : All (FitsSigned w64) pages.words
  pub narrow : AreColumnsOf columns rows pages.words kept
