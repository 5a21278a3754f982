-- What each unit of work costs.
use Rattle.std.specs.Prelude.{ℕ}

-- a node that reads a table begins
abbrev pub open_charge : ℕ
open_charge = 1

-- a page that a scan touches
abbrev pub page_charge : ℕ
page_charge = 8

-- a row that a scan looks at
abbrev pub row_charge : ℕ
row_charge = 1

-- a row that a node gives
abbrev pub emit_charge : ℕ
emit_charge = 1

-- a level of a descent in an index
abbrev pub node_charge : ℕ
node_charge = 2

-- an entry of an index that is read
abbrev pub entry_charge : ℕ
entry_charge = 1

-- a row that is read by its number
abbrev pub fetch_charge : ℕ
fetch_charge = 9

-- a row that is kept for a nested loop
abbrev pub build_charge : ℕ
build_charge = 1

-- a candidate pair that is looked at
abbrev pub pair_charge : ℕ
pair_charge = 1

-- a row that is put in a hash table
abbrev pub hash_in_charge : ℕ
hash_in_charge = 2

-- a look-up in a hash table
abbrev pub probe_charge : ℕ
probe_charge = 1

-- an input row of a merge
abbrev pub advance_charge : ℕ
advance_charge = 1
