-- What is seen of a metered database.
use Rattle.std.specs.Prelude.{◌≡◌, ℕ, ◌≤◌, length, List, ℤ, Result}
use Rattle.work_ledger.specs.Account.{Account, Pays}
use Rattle.heap_pages.specs.Rows.{pages_of, rows_on_page, row_number}
use Rattle.db_catalog.specs.Database.{DatabaseState, table_at, IsRowAt}

-- the database, and the account of what its reads cost
pub record MeterState : Type 0 where
  pub database : DatabaseState
  pub account : Account

-- how many pages the rows of a table take
abbrev pub table_pages : DatabaseState → ℕ → ℕ
table_pages database number =
    let table = table_at database number in pages_of (length table.columns) (length table.rows)

-- how many rows stand on a page of a table
abbrev pub page_rows : DatabaseState → ℕ → ℕ → ℕ
page_rows database number page =
    let table = table_at database number in
    rows_on_page (length table.columns) (length table.rows) page

-- the words stand for the row in this slot of this page
abbrev pub IsRowIn : DatabaseState → ℕ → ℕ → ℕ → List ℤ → Type 0
IsRowIn database number page slot words =
    IsRowAt database number (row_number (length (table_at database number).columns) page slot) words

-- a read that costs n: it pays exactly that or is refused, and the database is the same
pub record Reads {T E : Type 0} (n : ℕ) (old new : MeterState) (result : Result T E) : Type 0 where
  pub pays : Pays n old.account new.account result
  pub database : new.database ≡ old.database

-- of a meter nothing but what is spent changes, and no payment is taken back
pub record OnlySpends (old new : MeterState) : Type 0 where
  pub limit : new.account.limit ≡ old.account.limit
  pub never_falls : old.account.spent ≤ new.account.spent
  pub database : new.database ≡ old.database
