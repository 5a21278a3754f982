-- Rows read one by one, and where the first fault is.
use Rattle.std.proofs.Common.{◌≡◌, ◌≢◌, ℕ, zero, suc, ◌+◌, ◌<◌, ◌≤◌, Bool, true, false, List, [], ◌∷◌, ◌++◌, map, length, drop, get_or, Option, Some, None, refl, sym, ap, ◌∙◌, arith, append_assoc, append-nil}
use Rattle.std.specs.List.{zip, enumerate_from}
use Rattle.std.proofs.lemmas.List.{drop_more, drop_all}
use borrow.Author.Tests.{eq-eqb, ne_eqb}
use Rattle.csv.specs.Records.{field_at}
use Rattle.sql_values.specs.declared.column.ColumnDef.{ColumnDef}
use Rattle.csv_load.specs.declared.fault.LoadFault.{LoadFault}
use Rattle.csv_load.specs.declared.fault.LoadFault.TheVariants.{FieldCount}
use Rattle.csv_load.specs.Field.{field_fault, field_value}
use Rattle.csv_load.specs.Load.{Entry, first_fault, entry_fault, entries_fault, entry_row}
use Rattle.csv_load.proofs.Headers.{drop-field_at, field_at-none}

-- what is wrong with an entry's fields, of which the first is field i
unfoldable pub fields_fault_from : ℕ → ℕ → List ColumnDef → Entry → Option LoadFault
fields_fault_from i n columns fields =
    first_fault (λ f. field_fault (record { entry = n; field = f.0 }) f.1.0 f.1.1) (enumerate_from i (zip columns fields))

-- an entry of another width
pub entry_fault-other : (columns : List ColumnDef) (n : ℕ) (fields : Entry) → length fields ≢ length columns → entry_fault columns n fields ≡ Some (FieldCount n (length fields) (length columns))
unfolding entry_fault
entry_fault-other columns n fields other = rw (ne_eqb _ _ other) refl

-- an entry of the right width
pub entry_fault-from : (columns : List ColumnDef) (n : ℕ) (fields : Entry) → length fields ≡ length columns → entry_fault columns n fields ≡ fields_fault_from 1 n columns fields
unfolding entry_fault fields_fault_from
entry_fault-from columns n fields same = rw (eq-eqb _ _ same) refl

-- one field more
pub fields_fault_from-more : (i n : ℕ) (columns : List ColumnDef) (fields : Entry) (column : ColumnDef) (field : List ℕ) → i < length columns → column ≡ get_or columns i column → Some field ≡ field_at fields i
    → field_fault (record { entry = n; field = i + 1 }) column field ≡ None
    → fields_fault_from (i + 1) n (drop i columns) (drop i fields) ≡ fields_fault_from (i + 1 + 1) n (drop (i + 1) columns) (drop (i + 1) fields)
unfolding fields_fault_from
fields_fault_from-more i n columns fields column field inside c e good = rw (drop-field_at fields i field e, drop_more columns i column inside, ← c, good) refl

-- the first field that isn't good
pub fields_fault_from-bad : (i n : ℕ) (columns : List ColumnDef) (fields : Entry) (column : ColumnDef) (field : List ℕ) (fault : LoadFault) → i < length columns → column ≡ get_or columns i column → Some field ≡ field_at fields i
    → field_fault (record { entry = n; field = i + 1 }) column field ≡ Some fault → fields_fault_from (i + 1) n (drop i columns) (drop i fields) ≡ Some fault
unfolding fields_fault_from
fields_fault_from-bad i n columns fields column field fault inside c e bad = rw (drop-field_at fields i field e, drop_more columns i column inside, ← c, bad) refl

-- the last field was good
pub fields_fault_from-all : (i j n : ℕ) (columns : List ColumnDef) (fields : Entry) → length columns ≤ i → fields_fault_from j n (drop i columns) fields ≡ None
unfolding fields_fault_from
fields_fault_from-all i j n columns fields last = rw (drop_all i columns last) refl

-- one value more
pub entry_row-more : (i : ℕ) (columns : List ColumnDef) (fields : Entry) (column : ColumnDef) (field : List ℕ) → i < length columns → column ≡ get_or columns i column → Some field ≡ field_at fields i
    → entry_row (drop i columns) (drop i fields) ≡ field_value column field ∷ entry_row (drop (i + 1) columns) (drop (i + 1) fields)
unfolding entry_row
entry_row-more i columns fields column field inside c e = rw (drop-field_at fields i field e, drop_more columns i column inside, ← c) refl

pub entry_row-all : (i : ℕ) (columns : List ColumnDef) (fields : Entry) → length columns ≤ i → entry_row (drop i columns) fields ≡ []
unfolding entry_row
entry_row-all i columns fields last = rw (drop_all i columns last) refl

pub ruleset of_rows = (field_at-none, entry_fault-other, entry_fault-from, fields_fault_from-more, fields_fault_from-bad, fields_fault_from-all, entry_row-more, entry_row-all, append_assoc)

-- what is wrong with entries, of which the first is entry n
unfoldable pub entries_fault_from : ℕ → List ColumnDef → List Entry → Option LoadFault
entries_fault_from n columns entries = first_fault (λ e. entry_fault columns e.0 e.1) (enumerate_from n entries)

pub entries_fault-from : (columns : List ColumnDef) (entries : List Entry) → entries_fault columns entries ≡ entries_fault_from 1 columns entries
unfolding entries_fault entries_fault_from
entries_fault-from columns entries = refl

pub entries_fault_from-more : (n : ℕ) (columns : List ColumnDef) (entry : Entry) (entries : List Entry) → entry_fault columns n entry ≡ None → entries_fault_from n columns (entry ∷ entries) ≡ entries_fault_from (n + 1) columns entries
unfolding entries_fault_from
entries_fault_from-more n columns entry entries good = rw good refl

pub entries_fault_from-bad : (n : ℕ) (columns : List ColumnDef) (entry : Entry) (entries : List Entry) (fault : LoadFault) → entry_fault columns n entry ≡ Some fault → entries_fault_from n columns (entry ∷ entries) ≡ Some fault
unfolding entries_fault_from
entries_fault_from-bad n columns entry entries fault bad = rw bad refl

pub entries_fault_from-nothing : (n : ℕ) (columns : List ColumnDef) → entries_fault_from n columns [] ≡ None
unfolding entries_fault_from
entries_fault_from-nothing n columns = refl

pub ruleset of_files = (entries_fault-from, entries_fault_from-more, entries_fault_from-bad, entries_fault_from-nothing, append_assoc, append-nil)
