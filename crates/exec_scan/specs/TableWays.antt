-- What a look at the rows of a page does on the way through a table.
use Rattle.std.specs.Prelude.{◌≡◌, ◌-◌, ◌<◌, max, Bool, true, false, IsTrue, [], filter, slice_index_or}
use Rattle.query_block.specs.Blocks.{RelationTree}
use Rattle.query_block.specs.Meaning.{meets_filter}
use Rattle.db_catalog.specs.Database.{DatabaseState}
use Rattle.exec_scan.specs.declared.table_way.TableWay.{TableWay}
use Rattle.exec_scan.specs.Reading.{kept_ahead}
use Rattle.exec_scan.specs.TableReading.{TableReaderState, table_from}

-- only where it is on the page changes, and the marks at hand
abbrev pub MovesOnPage : (old new : TableWay) → Type 0
MovesOnPage old new = new ≡ record old { reader = record old.reader { slot = new.reader.slot }; next = new.next }

-- the rows left on the page are looked at, and none of them meets the filter
pub record LooksAtAll (database : DatabaseState) (own : RelationTree) (old new : TableReaderState) : Type 0 where
  pub passed : kept_ahead database own new ≡ kept_ahead database own old
  pub all : new.slot ≡ new.slots

-- of the rows that are looked at none but the last may meet the filter; it meets it where the marks tell all
pub record LooksUpTo (database : DatabaseState) (own : RelationTree) (exact : Bool) (old new : TableReaderState) : Type 0 where
  pub some : old.slot < new.slot
  pub passed : filter (meets_filter own.filter) (table_from database new (new.slot - 1)) ≡ kept_ahead database own old
  pub meets : IsTrue exact → meets_filter own.filter (slice_index_or (table_from database new (new.slot - 1)) 0 []) ≡ true

-- a look finds such a row, or there is none
abbrev pub LooksOnPage : DatabaseState → RelationTree → (old new : TableWay) → Bool → Type 0
LooksOnPage database own old new true = LooksUpTo database own old.filter.exact old.reader new.reader
LooksOnPage database own old new false = LooksAtAll database own old.reader new.reader

-- the rows whose marks were at hand are looked at, none of which meets the filter, and marks of more are taken; or none is left
abbrev pub TakesBlock : DatabaseState → RelationTree → (old new : TableWay) → Bool → Type 0
TakesBlock database own old new true =
    (kept_ahead database own new.reader ≡ kept_ahead database own old.reader)
    × (new.reader.slot ≡ max old.reader.slot old.next.end) × (new.reader.slot < new.next.end)
TakesBlock database own old new false = LooksAtAll database own old.reader new.reader
