-- What is seen of tables, read from how they are kept.
use Rattle.std.proofs.Common.{◌≡◌, ℕ, zero, suc, ◌*◌, ◌^◌, ◌<◌, ◌≤◌, List, [], ◌∷◌, length, map, get_or, Option, Some, None, option_map, Result, ℤ, pos, nat_abs, refl, sym, ap, subst, ◌∙◌, arith, slice_get, position, IfOk, Ok, Err}
use Rattle.std.specs.Prelude.{Contains, IsSomeAnd}
use Rattle.std.specs.List.{IsDistinct}
use Rattle.std.specs.Str.{bytes_eq}
use Rattle.std.proofs.lemmas.List.{length-map}
use Rattle.std.proofs.lemmas.List.Elements.{All-nil, All-weaker}
use Rattle.std.proofs.lemmas.Slice.Zip.{AllZip-long}
use Rattle.std.proofs.lemmas.Option.{get_or_from_slice_get, slice_get_within}
use Rattle.sql_values.specs.declared.column.ColumnDef.{ColumnDef}
use Rattle.sql_values.specs.Dictionary.{code_of}
use Rattle.sql_values.specs.Words.{IsWord}
use Rattle.sql_values.specs.Stored.{StoredTable, StandsFor, IsRowOf, AreWords, row_of}
use Rattle.sql_values.proofs.Stored.{StandsFor-row_of}
use Rattle.heap_pages.specs.Rows.{IsSlot, pages_of}
use Rattle.btree_index.specs.Entries.{ordered}
use Rattle.db_catalog.specs.declared.table.Table.{Table}
use Rattle.db_catalog.specs.Database.{DatabaseState, new_table, table_at, row_at, table_number, IsRowAt, StandAsWords}
use Rattle.db_catalog.specs.Indexes.{entries_from, index_at, kept_index}
use Rattle.db_catalog.specs.Meter.{table_pages}
use Rattle.db_catalog.specs.Kept.{MeanRows, IsWide, HasWords, HasColumn, stored_table, IsKept, IsHeapOf, AreKept}
use Rattle.db_catalog.proofs.OfIndexes.{entries_seen}

pub get_or-map : {X Y : Type 0} (f : X → Y) (xs : List X) (i : ℕ) (d : X) (e : Y) → i < length xs → get_or (map f xs) i e ≡ f (get_or xs i d)
get_or-map f [] i d e h = absurd (omega (arith, h))
get_or-map f (x ∷ xs) zero d e h = refl
get_or-map f (x ∷ xs) (suc i) d e h = get_or-map f xs i d e (omega (arith, h))

-- what is seen of a database of these parts, without the names of its indexes
abbrev pub database_of : List (List ℕ) → List Table → DatabaseState
database_of texts tables = record { tables = map (stored_table texts) tables; texts = texts; index_names = [] }

-- and with them
abbrev pub named : List (List ℕ) → DatabaseState → DatabaseState
named index_names database = record database { index_names = index_names }

-- a table of the database is what is seen of the one that is kept
pub table_at-database_of : (texts : List (List ℕ)) (tables : List Table) (number : ℕ) (table : Table) → number < length tables → table ≡ get_or tables number table →
    table_at (database_of texts tables) number ≡ stored_table texts table
table_at-database_of texts tables number table there is =
    get_or-map (stored_table texts) tables number table (new_table [] []) there ∙ ap (stored_table texts) (sym is)

pub kept_at : (names texts : List (List ℕ)) (tables : List Table) (number : ℕ) (table : Table) → AreKept names texts tables → number < length tables → table ≡ get_or tables number table → IsKept texts table
kept_at names texts tables number table kept there is = subst (IsKept texts) (sym is) (kept.each_kept number table there)

-- the words of a row that is kept stand for the row that is seen
pub row_is_seen : (names texts : List (List ℕ)) (tables : List Table) (number i : ℕ) (table : Table) (words : List ℤ) → AreKept names texts tables →
    number < length tables → table ≡ get_or tables number table → slice_get table.heap.rows i ≡ Some words → IsRowAt (database_of texts tables) number i words
row_is_seen names texts tables number i table words kept there is row =
    let mean : MeanRows texts table.columns.items table.heap.rows = (kept_at names texts tables number table kept there is).rows in
    let within : i < length table.heap.rows = slice_get_within table.heap.rows i words row in
    let words_are : get_or table.heap.rows i words ≡ words = get_or_from_slice_get table.heap.rows i words words row in
    let allowed : AreWords texts table.columns.items words = subst (AreWords texts table.columns.items) words_are (mean.allowed i words within) in
    let fit : IsRowOf table.columns.items (row_of texts table.columns.items words) = subst (λ w. IsRowOf table.columns.items (row_of texts table.columns.items w)) words_are (mean.fit i words within) in
    let seen : row_at (stored_table texts table) i ≡ row_of texts table.columns.items words = get_or-map (row_of texts table.columns.items) table.heap.rows i words [] within ∙ ap (row_of texts table.columns.items) words_are in
    subst (λ t. StandsFor texts t.columns words (row_at t i)) (sym (table_at-database_of texts tables number table there is))
    (subst (StandsFor texts table.columns.items words) (sym seen) (StandsFor-row_of texts table.columns.items words kept.distinct_texts allowed fit))

-- the heap of a table that is kept is the heap of the one that is seen
pub heap_is_seen : {index_names : List (List ℕ)} (names texts : List (List ℕ)) (tables : List Table) (number : ℕ) (table : Table) → AreKept names texts tables → number < length tables →
    table ≡ get_or tables number table → IsHeapOf (named index_names (database_of texts tables)) number table.heap
heap_is_seen names texts tables number table kept there is =
    let seen = sym (table_at-database_of texts tables number table there is) in
    record {
      width = (kept_at names texts tables number table kept there is).width ∙ ap (λ t. length t.columns) seen;
      count = sym (length-map table.heap.rows (row_of texts table.columns.items)) ∙ ap (λ t. length t.rows) seen;
      rows = λ i words row. row_is_seen names texts tables number i table words kept there is row;
    }

pub IfOk-map : {T E : Type 0} {P Q : T → Type 0} (r : Result T E) → ((x : T) → P x → Q x) → IfOk r P → IfOk r Q
IfOk-map (Ok x) weaker h = weaker x h
IfOk-map (Err e) weaker h = tt

-- names of tables
pub names_seen : (texts : List (List ℕ)) (tables : List Table) → map (λ table. table.name) (map (stored_table texts) tables) ≡ map (λ table. table.name) tables
names_seen texts [] = refl
names_seen texts (t ∷ ts) = ap (λ l. t.name ∷ l) (names_seen texts ts)

pub number-of_code : (names : List (List ℕ)) (name : List ℕ) → option_map nat_abs (code_of names name) ≡ position (bytes_eq name) names
number-of_code names name = by (position (bytes_eq name) names)
  where
    by : (o : Option ℕ) → option_map nat_abs (option_map pos o) ≡ o
    by None = refl
    by (Some n) = refl

no_texts : IsDistinct bytes_eq []
unfolding IsDistinct
no_texts = tt

-- a database without tables
pub nothing_kept : AreKept [] [] []
nothing_kept = record { names_of_tables = refl; few_tables = omega arith; each_kept = All-nil (IsKept []); distinct_texts = no_texts }

-- a table that is seen is kept
pub is_kept : {index_names : List (List ℕ)} (texts : List (List ℕ)) (tables : List Table) (db : DatabaseState) (number : ℕ) → named index_names (database_of texts tables) ≡ db → number < length db.tables → number < length tables
is_kept texts tables db number view there = omega (arith, there, ap (λ d. length d.tables) view, length-map tables (stored_table texts))

-- what no table without rows, columns and indexes has is had by a table that is there
pub has_table : (P : StoredTable → Type 0) (tables : List StoredTable) (number : ℕ) → (P (new_table [] []) → ⊥) → P (get_or tables number (new_table [] [])) → number < length tables
has_table P [] number none has = absurd (none has)
has_table P (t ∷ ts) zero none has = omega arith
has_table P (t ∷ ts) (suc number) none has = omega (arith, has_table P ts number none has)

pub row_there : (db : DatabaseState) (number i : ℕ) → i < length (table_at db number).rows → number < length db.tables
row_there db number i = has_table (λ t. i < length t.rows) db.tables number (λ h. omega (arith, h))

pub column_there : (db : DatabaseState) (number column : ℕ) → column < length (table_at db number).columns → number < length db.tables
column_there db number column = has_table (λ t. column < length t.columns) db.tables number (λ h. omega (arith, h))

pub page_there : (db : DatabaseState) (number page : ℕ) → page < table_pages db number → number < length db.tables
page_there db number page = has_table (λ t. page < pages_of (length t.columns) (length t.rows)) db.tables number (λ h. omega (arith, h))

pub index_there : (db : DatabaseState) (number column : ℕ) → Contains (table_at db number).indexed column → number < length db.tables
index_there db number column = has_table (λ t. Contains t.indexed column) db.tables number (λ (_, h, _). omega (arith, h))

pub slot_there : (db : DatabaseState) (number page slot : ℕ) → IsSlot (length (table_at db number).columns) (length (table_at db number).rows) page slot → number < length db.tables
slot_there db number page slot has = row_there db number _ has.there

-- the code of a name is the number of its table
pub number_seen : (names texts : List (List ℕ)) (tables : List Table) (name : List ℕ) → names ≡ map (λ table. table.name) tables → option_map nat_abs (code_of names name) ≡ table_number (database_of texts tables) name
number_seen names texts tables name are =
    number-of_code names name ∙ ap (position (bytes_eq name)) (are ∙ sym (names_seen texts tables))

-- there is something at a place
pub some_at : {X : Type 0} (xs : List X) (i : ℕ) → i < length xs → (x : X) × ((slice_get xs i ≡ Some x) × (x ≡ get_or xs i x))
some_at [] i h = absurd (omega (arith, h))
some_at (x ∷ xs) zero h = (x, (refl, refl))
some_at (x ∷ xs) (suc i) h = some_at xs i (omega (arith, h))

-- a table that is kept has rows as wide as it is
pub is_wide : (texts : List (List ℕ)) (table : Table) → IsKept texts table → IsWide table
is_wide texts table kept = record {
  width = kept.width;
  wide = All-weaker (AreWords texts table.columns.items) (λ words. length words ≡ table.heap.columns)
      (λ words allowed. AllZip-long (λ column word. IsWord texts column.kind word) table.columns.items words allowed ∙ sym kept.width) table.heap.rows kept.rows.allowed;
}

-- so many words make rows of the table at a place
pub has_words : (names texts : List (List ℕ)) (tables : List Table) (number words rows : ℕ) (columns : List ColumnDef) → AreKept names texts tables → number < length tables →
    columns ≡ (table_at (database_of texts tables) number).columns → rows ≤ 2 ^ 62 → words ≡ rows * length columns → IsSomeAnd (slice_get tables number) (HasWords words rows)
has_words names texts tables number words rows columns kept there same few filled =
    let (table, (at, is)) = some_at tables number there in
    let here : IsKept texts table = kept_at names texts tables number table kept there is in
    let width : length columns ≡ table.heap.columns =
    ap length (same ∙ ap (λ t. t.columns) (table_at-database_of texts tables number table there is)) ∙ sym here.width in
    subst (λ o. IsSomeAnd o (HasWords words rows)) (sym at)
    (record { few = few; is_wide = is_wide texts table here; filled = filled ∙ ap (λ n. rows * n) width; indexes = here.indexes })

-- the table at a place has a column of the table that is seen there
pub has_column : (names texts : List (List ℕ)) (tables : List Table) (number column : ℕ) → AreKept names texts tables → number < length tables →
    column < length (table_at (database_of texts tables) number).columns → IsSomeAnd (slice_get tables number) (HasColumn column)
has_column names texts tables number column kept there exists =
    let (table, (at, is)) = some_at tables number there in
    let here : IsKept texts table = kept_at names texts tables number table kept there is in
    let count = ap (λ t. length t.columns) (table_at-database_of texts tables number table there is) in
    subst (λ o. IsSomeAnd o (HasColumn column)) (sym at)
    (record { is_wide = is_wide texts table here; there = omega (arith, exists, count, here.width) })

-- the index that is kept of a column of a table is the one that is seen
pub index_seen : (names texts : List (List ℕ)) (tables : List Table) (number column : ℕ) (table : Table) → AreKept names texts tables → number < length tables → table ≡ get_or tables number table →
    index_at (database_of texts tables) number column ≡ kept_index table.heap.rows column
index_seen names texts tables number column table kept there is =
    ap (λ t. ordered (entries_from texts column 0 t.rows)) (table_at-database_of texts tables number table there is)
    ∙ ap ordered (entries_seen texts table.columns.items column 0 table.heap.rows kept.distinct_texts (kept_at names texts tables number table kept there is).rows)

-- each row of a table that is seen stands as words
pub rows_stand : (names texts : List (List ℕ)) (tables : List Table) (number : ℕ) → AreKept names texts tables → number < length tables → StandAsWords (database_of texts tables) number
rows_stand names texts tables number kept there i within =
    let (table, (at, is)) = some_at tables number there in
    let count = ap (λ t. length t.rows) (table_at-database_of texts tables number table there is) in
    let here : i < length table.heap.rows = omega (arith, within, count, length-map table.heap.rows (row_of texts table.columns.items)) in
    let (words, (row, read)) = some_at table.heap.rows i here in
    (words, row_is_seen names texts tables number i table words kept there is row)

-- the table of a read is there
pub ruleset of_reads = (row_there, column_there, page_there, index_there, slot_there)
