-- The entries of a column, in rows of words and in rows of values.
use Rattle.std.proofs.Common.{All, ◌≡◌, ℕ, zero, suc, ◌+◌, ◌-◌, ◌<◌, Bool, true, false, List, [], ◌∷◌, ◌++◌, length, map, drop, get_or, Result, Ok, Err, IfOk, ℤ, refl, sym, ap, ◌∙◌, arith, append_assoc, append-nil, if◌then◌else◌}
use Rattle.std.specs.Prelude.{slice_index_or, Contains, IfSome}
use Rattle.std.specs.List.{IsDistinct}
use Rattle.std.specs.List.Sorted.{IsPermutation}
use Rattle.std.specs.Ordering.{int_eq}
use Rattle.std.specs.Str.{bytes_eq}
use Rattle.std.proofs.lemmas.Bool.Decides.{Decides-int_eq}
use Rattle.std.proofs.lemmas.List.Elements.{All-append, All-take, All-drop, All-contains, All-nil, All-cons, All-head, All-tail, All-weaker}
use Rattle.std.proofs.lemmas.List.Sorted.{All-permutation}
use Rattle.sql_values.specs.declared.value.Value.{Value}
use Rattle.sql_values.specs.declared.value.Value.TheVariants as value
use Rattle.sql_values.specs.declared.column.ColumnDef.{ColumnDef}
use Rattle.sql_values.specs.Words.{null_word, word_of}
use Rattle.sql_values.specs.Stored.{ValueRow, IsValueOf, IsRowOf, AreWords, row_of}
use Rattle.sql_values.proofs.Stored.{StandsFor-row_of}
use Rattle.btree_index.specs.Entries.{IndexEntry, IsInOrder, entries_left, first_row, ordered}
use Rattle.btree_index.specs.declared.index.Cursor.{Cursor}
use Rattle.db_catalog.specs.Database.{DatabaseState, table_at}
use Rattle.db_catalog.specs.Indexes.{value_entry, entries_from, column_entries, index_at, word_entry, word_entries, kept_index}
use Rattle.db_catalog.specs.Kept.{MeanRows}
use Rattle.btree_index.proofs.EntryOrder.{ordered_same, ordered_alone, ordered_merged}

-- entries of rows and of more rows behind them
pub word_entries-append : (column first : ℕ) (rows more : List (List ℤ)) → word_entries column first (rows ++ more) ≡ word_entries column first rows ++ word_entries column (first + length rows) more
word_entries-append column first [] more = let none : first ≡ first + 0 = omega arith in ap (λ n. word_entries column n more) none
word_entries-append column first (words ∷ rows) more =
    let here = word_entry first (slice_index_or words column null_word) in
    let place : first + 1 + length rows ≡ first + suc (length rows) = omega arith in
    ap (λ l. here ++ l) (word_entries-append column (first + 1) rows more ∙ ap (λ n. word_entries column (first + 1) rows ++ word_entries column n more) place)
    ∙ sym (append_assoc here (word_entries column (first + 1) rows) (word_entries column (first + suc (length rows)) more))

-- and of one more
pub word_entries-push : (column first : ℕ) (rows : List (List ℤ)) (words : List ℤ) → word_entries column first (rows ++ words ∷ []) ≡ word_entries column first rows ++ word_entry (first + length rows) (slice_index_or words column null_word)
word_entries-push column first rows words =
    word_entries-append column first rows (words ∷ [])
    ∙ ap (λ l. word_entries column first rows ++ l) (append-nil (word_entry (first + length rows) (slice_index_or words column null_word)))

in_range : {X : Type 0} (xs : List X) (i : ℕ) (d e : X) → i < length xs → get_or xs i d ≡ get_or xs i e
in_range [] i d e h = absurd (omega (arith, h))
in_range (x ∷ xs) zero d e h = refl
in_range (x ∷ xs) (suc i) d e h = in_range xs i d e (omega (arith, h))

-- the entry of the next row
pub next_entry : (column first i number : ℕ) (before : List (List ℤ)) (words : List ℤ) (d : ℤ) (entries entries' : List IndexEntry) →
    entries ≡ word_entries column first before → length before ≡ i → column < length words → number ≡ first + i →
    entries' ≡ entries ++ word_entry number (get_or words column d) → entries' ≡ word_entries column first (before ++ words ∷ [])
next_entry column first i number before words d entries entries' so_far long there is put =
    put
    ∙ (λ j. so_far j ++ word_entry ((is ∙ ap (λ n. first + n) (sym long)) j) (in_range words column d null_word there j))
    ∙ sym (word_entries-push column first before words)

-- each entry of rows has the number of one of them
value_entry-below : (texts : List (List ℕ)) (number bound : ℕ) (v : Value) → number < bound → All (λ (e : IndexEntry). e.1 < bound) (value_entry texts number v)
value_entry-below texts number bound value.Null h = All-nil (λ (e : IndexEntry). e.1 < bound)
value_entry-below texts number bound (value.Int n) h = All-cons (λ (e : IndexEntry). e.1 < bound) (n, number) [] h (All-nil (λ (e : IndexEntry). e.1 < bound))
value_entry-below texts number bound (value.Text t) h = All-cons (λ (e : IndexEntry). e.1 < bound) (word_of texts (value.Text t), number) [] h (All-nil (λ (e : IndexEntry). e.1 < bound))

entries_from-below : (texts : List (List ℕ)) (column first bound : ℕ) (rows : List ValueRow) → first + length rows ≡ bound → All (λ (e : IndexEntry). e.1 < bound) (entries_from texts column first rows)
entries_from-below texts column first bound [] h = All-nil (λ (e : IndexEntry). e.1 < bound)
entries_from-below texts column first bound (row ∷ rows) h =
    All-append (λ (e : IndexEntry). e.1 < bound) (value_entry texts first (slice_index_or row column value.Null)) (entries_from texts column (first + 1) rows)
    (value_entry-below texts first bound (slice_index_or row column value.Null) (omega (arith, h)))
    (entries_from-below texts column (first + 1) bound rows (omega (arith, h)))

pub index_at-below : (database : DatabaseState) (number column : ℕ) → All (λ (e : IndexEntry). e.1 < length (table_at database number).rows) (index_at database number column)
index_at-below database number column =
    let rows = (table_at database number).rows in
    All-permutation (λ (e : IndexEntry). e.1 < length rows) (column_entries database number column) (index_at database number column) (ordered_same (column_entries database number column))
    (entries_from-below database.texts column 0 (length rows) rows (omega arith))

-- so has the one that comes next
first-below : (entries : List IndexEntry) (bound : ℕ) → All (λ (e : IndexEntry). e.1 < bound) entries → IfSome (first_row entries) (λ i. i < bound)
first-below [] bound all = tt
first-below (e ∷ entries) bound all = All-head (λ (e : IndexEntry). e.1 < bound) e entries all

pub first_row-below : (entries : List IndexEntry) (cursor : Cursor) (bound : ℕ) → All (λ (e : IndexEntry). e.1 < bound) entries → IfSome (first_row (entries_left entries cursor)) (λ i. i < bound)
first_row-below entries cursor bound all =
    first-below (entries_left entries cursor) bound
    (All-take (λ (e : IndexEntry). e.1 < bound) (cursor.end - cursor.next) (drop cursor.next entries) (All-drop (λ (e : IndexEntry). e.1 < bound) cursor.next entries all))

-- and so has each that is one of them
pub some-below : (entries some : List IndexEntry) (bound : ℕ) → All (λ (e : IndexEntry). e.1 < bound) entries → All (Contains entries) some → All (λ (e : IndexEntry). e.1 < bound) some
some-below entries some bound all each =
    All-weaker (Contains entries) (λ (e : IndexEntry). e.1 < bound) (λ e is. All-contains (λ (e : IndexEntry). e.1 < bound) entries e all is) some each

-- the index that is built of a column's entries is the one that is kept
pub built : {E : Type 0} (r : Result (List IndexEntry) E) (entries : List IndexEntry) → IfOk r (λ index. IsPermutation entries index) → IfOk r IsInOrder → IfOk r (λ index. index ≡ ordered entries)
built (Ok index) entries same order = ordered_alone entries index same order
built (Err e) entries same order = tt

-- and the one that is merged with the entries of more rows is the one of all rows
pub merged : {E : Type 0} (r : Result (List IndexEntry) E) (rows more : List (List ℤ)) (column : ℕ) (turned : List IndexEntry) → IsPermutation (word_entries column (length rows) more) turned →
    IfOk r (λ index. IsPermutation (kept_index rows column ++ turned) index) → IfOk r IsInOrder → IfOk r (λ index. index ≡ kept_index (rows ++ more) column)
merged (Ok index) rows more column turned moved same order =
    let place : 0 + length rows ≡ length rows = omega arith in
    ordered_merged (word_entries column 0 rows) (word_entries column (length rows) more) turned index moved same order
    ∙ ap ordered (sym (word_entries-append column 0 rows more ∙ ap (λ n. word_entries column 0 rows ++ word_entries column n more) place))
merged (Err e) rows more column turned moved same order = tt

-- a value that fits and its word have the same entry
value_entry-word : (texts : List (List ℕ)) (column : ColumnDef) (number : ℕ) (v : Value) → IsValueOf column v → value_entry texts number v ≡ word_entry number (word_of texts v)
value_entry-word texts column number value.Null fits = refl
value_entry-word texts column number (value.Int n) fits = by (int_eq n null_word) refl
  where
    entry : IndexEntry
    entry = (n, number)

    by : (b : Bool) → int_eq n null_word ≡ b → entry ∷ [] ≡ (if b then [] else entry ∷ [])
    by true e = absurd (fits.1 ((Decides-int_eq n null_word).0 e))
    by false e = refl
value_entry-word texts column number (value.Text t) fits = refl

row_entry-words : (texts : List (List ℕ)) (columns : List ColumnDef) (row : ValueRow) (column number : ℕ) → IsRowOf columns row →
    value_entry texts number (slice_index_or row column value.Null) ≡ word_entry number (slice_index_or (map (word_of texts) row) column null_word)
row_entry-words texts [] [] column number fits = refl
row_entry-words texts [] (v ∷ row) column number fits = absurd fits
row_entry-words texts (c ∷ columns) [] column number fits = absurd fits
row_entry-words texts (c ∷ columns) (v ∷ row) zero number fits = value_entry-word texts c number v fits.0
row_entry-words texts (c ∷ columns) (v ∷ row) (suc column) number fits = row_entry-words texts columns row column number fits.1

-- rows of words and the rows that they mean have the same entries
pub entries_seen : (texts : List (List ℕ)) (columns : List ColumnDef) (column first : ℕ) (rows : List (List ℤ)) → IsDistinct bytes_eq texts → MeanRows texts columns rows →
    entries_from texts column first (map (row_of texts columns) rows) ≡ word_entries column first rows
entries_seen texts columns column first [] distinct mean = refl
entries_seen texts columns column first (words ∷ rows) distinct mean =
    let allowed = All-head (AreWords texts columns) words rows mean.allowed in
    let fit = All-head (λ w. IsRowOf columns (row_of texts columns w)) words rows mean.fit in
    let again = (StandsFor-row_of texts columns words distinct allowed fit).by_value in
    let rest : MeanRows texts columns rows = record { allowed = All-tail (AreWords texts columns) words rows mean.allowed; fit = All-tail (λ w. IsRowOf columns (row_of texts columns w)) words rows mean.fit } in
    λ i. (row_entry-words texts columns (row_of texts columns words) column first fit ∙ ap (λ ws. word_entry first (slice_index_or ws column null_word)) (sym again)) i
    ++ entries_seen texts columns column (first + 1) rows distinct rest i
