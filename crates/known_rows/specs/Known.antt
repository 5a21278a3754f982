-- What is known of numbers, at the least: how many rows sets of relations have, and how many entries of indexes edges find for
-- these rows. And how much work may go into listing more.
use Rattle.std.specs.Prelude.{ℕ, ◌+◌, ◌-◌, ◌^◌, ◌≤◌, List, [], length, max, min, replicate, slice_index_or, slice_set}
use Rattle.sql_values.specs.Limits.{max_axes}
use Rattle.sql_values.specs.Stored.{StoredTable}
use Rattle.query_block.specs.Blocks.{BlockTree}
use Rattle.query_block.specs.Meaning.{rows_of}
use Rattle.plan_tree.specs.Sets.{set_of}
use Rattle.known_rows.specs.Entries.{entries_found}

-- of each set how many rows, and of each edge, for each set, how many entries; a set by its number, bit r for relation r. And
-- how many units of work may go into listing
pub record KnownState : Type 0 where
  pub rows : List ℕ
  pub entries : List (List ℕ)
  pub allowance : ℕ

-- how many rows a set is known to have, at the least
abbrev pub known_rows_of : (known : KnownState) → (set : ℕ) → ℕ
known_rows_of known set = slice_index_or known.rows set 0

-- how many entries an edge is known to find for the rows of a set, at the least
abbrev pub known_entries : (known : KnownState) → (edge set : ℕ) → ℕ
known_entries known edge set = slice_index_or (slice_index_or known.entries edge []) set 0

-- what is known is so: no set has fewer rows, and for no set's rows an edge finds fewer entries
pub record AreKnown (tables : List StoredTable) (block : BlockTree) (known : KnownState) : Type 0 where
  pub rows : (set : ℕ) → known_rows_of known set ≤ length (rows_of tables block (set_of set))
  pub entries : (edge set : ℕ) → known_entries known edge set ≤ entries_found tables block edge (set_of set)

-- it is learned that a set has at least so many rows; of a set that has no place nothing is learned
abbrev pub learned : (known : KnownState) → (set rows : ℕ) → KnownState
learned known set rows = record known { rows = slice_set known.rows set (max (known_rows_of known set) rows) }

-- it is learned that an edge finds at least so many entries for the rows of a set; so too
abbrev pub learned_entries : (known : KnownState) → (edge set entries : ℕ) → KnownState
learned_entries known edge set entries =
    let of_edge = slice_index_or known.entries edge [] in
    record known { entries = slice_set known.entries edge (slice_set of_edge set (max (known_entries known edge set) entries)) }

-- nothing is known of the sets of six relations
abbrev pub nothing_known : KnownState
nothing_known = record { rows = replicate 64 0; entries = replicate max_axes (replicate 64 0); allowance = 0 }

-- so many units more may go into listing; the greatest number stands for more
abbrev pub allowed : (known : KnownState) → (units : ℕ) → KnownState
allowed known units = record known { allowance = min (known.allowance + units) (2 ^ 128 - 1) }

-- so many units went into it
abbrev pub listed_units : (known : KnownState) → (units : ℕ) → KnownState
listed_units known units = record known { allowance = known.allowance - units }
