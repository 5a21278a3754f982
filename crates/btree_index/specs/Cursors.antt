-- What a cursor has to give, and what it does as it gives it.
use Rattle.std.specs.Prelude.{◌≡◌, ℕ, ℤ, List, drop, filter, Option, Result, IfOk, OnOk, OnErr}
use Rattle.btree_index.specs.declared.index.Cursor.{Cursor}
use Rattle.btree_index.specs.Entries.{IndexEntry, IsOn, entries_left, first_row, is_within}

-- a cursor stands on the entries, of which it has those with words of a range yet to give
pub record IsOnRange (entries : List IndexEntry) (from to : ℤ) (cursor : Cursor) : Type 0 where
  pub placed : IsOn entries cursor
  pub range : entries_left entries cursor ≡ filter (is_within from to) entries

-- a cursor gives the row of its next entry and moves past it; where it is refused, it stays where it was
pub record MovesOn {E : Type 0} (entries : List IndexEntry) (old new : Cursor) (result : Result (Option ℕ) E) : Type 0 where
  pub row : IfOk result (λ row. row ≡ first_row (entries_left entries old))
  pub left : OnOk result (entries_left entries new ≡ drop 1 (entries_left entries old))
  pub unchanged : OnErr result (new ≡ old)
  pub placed : IsOn entries new
