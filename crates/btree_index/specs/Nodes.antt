-- The nodes of an index: how many there are, and what the levels above the leaves hold.
use Rattle.std.specs.Prelude.{◌≡◌, ℕ, zero, suc, ℤ, ◌+◌, ◌-◌, ◌*◌, ◌^◌, ◌<◌, ◌≤◌, Bool, true, false, List, length, map, take, drop, min, max, int_lt, slice_index_or}
use Rattle.std.specs.Int.{div_ceil}
use Rattle.std.specs.List.{AllWithin}
use Rattle.std.specs.List.Sorted.{IsPartitionPoint}
use Rattle.btree_index.specs.Height.{node_entries, height_of}
use Rattle.btree_index.specs.Entries.{IndexEntry, IsInOrder, HaveWords}

-- how many nodes a level has on which so many entries or words stand
abbrev pub node_count : ℕ → ℕ
node_count items = div_ceil items node_entries

-- how many nodes there are on the levels up to one, the leaves being level 1
abbrev pub nodes_up_to : (entries level : ℕ) → ℕ
nodes_up_to entries zero = 0
nodes_up_to entries (suc level) =
    nodes_up_to entries level + max 1 (div_ceil entries (node_entries ^ (level + 1)))

-- how many nodes an index of so many entries has
abbrev pub nodes_of : (entries : ℕ) → ℕ
nodes_of entries = nodes_up_to entries (height_of entries)

abbrev pub entry_word : IndexEntry → ℤ
entry_word entry = entry.0

-- a level above another: of each node below the last word
pub record AreLastWords (words above : List ℤ) : Type 0 where
  pub count : length above ≡ node_count (length words)
  pub each : (node : ℕ) (d : ℤ) → node < length above
      → slice_index_or above node d ≡ slice_index_or words (min (node * node_entries + (node_entries - 1)) (length words - 1)) d

-- the levels above one, up to a level that is one node
abbrev pub AreLevels : (more : ℕ) (words above : List ℤ) → Type 0
AreLevels zero words above = length words ≤ node_entries
AreLevels (suc more) words above =
    AreLastWords words (take (node_count (length words)) above)
    × AreLevels more (take (node_count (length words)) above) (drop (node_count (length words)) above)

-- whether a word is less than the first
abbrev pub is_below : ℤ → ℤ → Bool
is_below word other = int_lt other word

abbrev pub is_entry_below : ℤ → IndexEntry → Bool
is_entry_below word entry = int_lt entry.0 word

-- those before a place pass a test, and the others fail it
abbrev pub AreSplitAt : {A : Type 0} → (A → Bool) → List A → ℕ → Type 0
AreSplitAt test items place = IsPartitionPoint (λ item. test item ≡ true) (λ item. test item ≡ false) items place

-- all before a node pass a test, and all behind it fail it
pub record IsAround {A : Type 0} (test : A → Bool) (items : List A) (node : ℕ) : Type 0 where
  pub before : AllWithin (λ item. test item ≡ true) items 0 (min (node * node_entries) (length items))
  pub behind : AllWithin (λ item. test item ≡ false) items (node * node_entries + node_entries) (length items)

-- of numbered places those below a count pass a test, and the others fail it
pub record IsCounted (passes : ℕ → Bool) (below count : ℕ) : Type 0 where
  pub most : below ≤ count
  pub before : (i : ℕ) → i < below → passes i ≡ true
  pub behind : (i : ℕ) → below ≤ i → i < count → passes i ≡ false

-- what an index keeps: its entries in order, the levels above them as its height says, and each node counted
pub record IsTree (entries : List IndexEntry) (inner : List ℤ) (height : ℕ) : Type 0 where
  pub in_order : IsInOrder entries
  pub words : HaveWords entries
  pub as_stated : height ≡ height_of (length entries)
  pub levels : AreLevels (height - 1) (map entry_word entries) inner
  pub nodes : length inner + 1 ≡ nodes_of (length entries)
