-- The two runs of an index, each in order, and what is found in them.
use Rattle.std.specs.Prelude.{◌≡◌, ℕ, ℤ, ◌+◌, ◌-◌, ◌<◌, ◌≤◌, false, true, List, length, int_le, slice_index_or}
use Rattle.std.specs.Ordering.{is_gt}
use Rattle.btree_index.specs.declared.run.Stretch.{Stretch}
use Rattle.btree_index.specs.Height.{height_of}
use Rattle.btree_index.specs.Entries.{IndexEntry, HaveWords, IsInOrder, entry_order}
use Rattle.btree_index.specs.Nodes.{AreSplitAt, is_entry_below}

-- what an index keeps: both runs in order, and the height of a tree of all their entries
pub record AreRuns (older newer : List IndexEntry) (height : ℕ) : Type 0 where
  pub older_order : IsInOrder older
  pub newer_order : IsInOrder newer
  pub older_words : HaveWords older
  pub newer_words : HaveWords newer
  pub as_stated : height ≡ height_of (length older + length newer)

-- a stretch begins behind the entries with lesser words, and ends behind those with words up to the last
pub record IsStretch (entries : List IndexEntry) (from to : ℤ) (stretch : Stretch) : Type 0 where
  pub begin_there : stretch.begin ≤ length entries
  pub end_there : stretch.end ≤ length entries
  pub begins : AreSplitAt (is_entry_below from) entries stretch.begin
  pub ends : AreSplitAt (λ entry. int_le entry.0 to) entries stretch.end

-- of the entries before a place of both runs so many are older ones, and none of them comes after one behind the place
pub record IsSplitAt (older newer : List IndexEntry) (place first : ℕ) : Type 0 where
  pub low : first ≤ place
  pub older_there : first ≤ length older
  pub newer_there : place - first ≤ length newer
  pub older_before : (d : IndexEntry) → 0 < first → place - first < length newer
      → is_gt (entry_order (slice_index_or older (first - 1) d) (slice_index_or newer (place - first) d)) ≡ false
  pub newer_before : (d : IndexEntry) → first < place → first < length older
      → is_gt (entry_order (slice_index_or newer (place - first - 1) d) (slice_index_or older first d)) ≡ false

-- behind so many older and so many newer entries comes a newer one
pub record IsNewerNext (older newer : List IndexEntry) (first second : ℕ) : Type 0 where
  pub there : second < length newer
  pub after : (d : IndexEntry) → first < length older → is_gt (entry_order (slice_index_or older first d) (slice_index_or newer second d)) ≡ true

-- or an older one
pub record IsOlderNext (older newer : List IndexEntry) (first second : ℕ) : Type 0 where
  pub there : first < length older
  pub before : (d : IndexEntry) → second < length newer → is_gt (entry_order (slice_index_or older first d) (slice_index_or newer second d)) ≡ false

-- the row of the entry at a place
abbrev pub IsRowOfPlace : (entries : List IndexEntry) → (place row : ℕ) → Type 0
IsRowOfPlace entries place row = (d : IndexEntry) → row ≡ (slice_index_or entries place d).1
