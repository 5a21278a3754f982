-- A batch, as one more value or the end of a row comes.
use Rattle.std.proofs.Common.{◌≡◌, ℕ, ◌+◌, ◌<◌, ◌≤◌, List, [], ◌∷◌, ◌++◌, length, map, take, All, Option, Some, None, ℤ, refl, sym, ap, subst, ◌∙◌, arith, length-append, append_assoc, append-nil, slice_get}
use Rattle.std.specs.Prelude.{IsSomeAnd}
use Rattle.std.proofs.lemmas.Option.{slice_get_within}
use Rattle.std.specs.List.{AllZip, filter_map, flat_map}
use Rattle.std.proofs.lemmas.List.{map-append, take_all}
use Rattle.std.proofs.lemmas.List.Elements.{All-push, All-same, All-nil, All-head, All-tail, filter_map-append}
use Rattle.std.proofs.lemmas.List.Concat.{flat_map-append}
use Rattle.std.proofs.lemmas.List.Sums.{fold-append}
use Rattle.sql_values.specs.declared.value.Value.{Value}
use Rattle.sql_values.specs.declared.column.ColumnDef.{ColumnDef}
use Rattle.sql_values.specs.Dictionary.{with_text, with_texts, Begins}
use Rattle.sql_values.specs.Words.{value_of, IsWord}
use Rattle.sql_values.specs.Stored.{ValueRow, IsValueOf, IsRowOf, AreWords, row_of, text_in, texts_in}
use Rattle.sql_values.proofs.Stored.{length-row_of, row_of-take, row_of-nil, row_of-append, AreWords-append, IsRowOf-append, row_of-Begins, AreWords-Begins}
use Rattle.heap_pages.specs.Rows.{cut_rows}
use Rattle.heap_pages.proofs.CutRows.{cut_rows-append}
use Rattle.db_catalog.specs.Batch.{BatchState, FitsNext, with_value, with_row_ended}
use Rattle.db_catalog.specs.Kept.{MeanRows, IsBatch}

-- what is seen of a batch's rows
abbrev pub rows_of : List (List ℕ) → List ColumnDef → ℕ → List ℤ → List ValueRow
rows_of texts columns rows words = map (row_of texts columns) (cut_rows (length columns) rows words)

-- rows mean the same where more texts come
pub map-row_of-Begins : (texts new : List (List ℕ)) (columns : List ColumnDef) (rows : List (List ℤ)) → Begins texts new → All (AreWords texts columns) rows → map (row_of new columns) rows ≡ map (row_of texts columns) rows
map-row_of-Begins texts new columns [] begins h = refl
map-row_of-Begins texts new columns (words ∷ rows) begins h =
    (λ i. row_of-Begins texts new begins columns words (All-head (AreWords texts columns) words rows h) i
    ∷ map-row_of-Begins texts new columns rows begins (All-tail (AreWords texts columns) words rows h) i)

pub MeanRows-Begins : (texts new : List (List ℕ)) (columns : List ColumnDef) (rows : List (List ℤ)) → Begins texts new → MeanRows texts columns rows → MeanRows new columns rows
MeanRows-Begins texts new columns rows begins h = record {
  allowed = λ k d there. AreWords-Begins texts new begins columns _ (h.allowed k d there);
  fit = λ k d there. subst (IsRowOf columns) (sym (row_of-Begins texts new begins columns _ (h.allowed k d there))) (h.fit k d there);
}

-- the texts of rows, of which the last has one more value
pub texts_in-value : (rows : List ValueRow) (row : ValueRow) (v : Value) → texts_in (rows ++ (row ++ v ∷ []) ∷ []) ≡ texts_in (rows ++ row ∷ []) ++ filter_map text_in (v ∷ [])
texts_in-value rows row v =
    let flat : List Value = flat_map (λ r. r) rows in
    ap (filter_map text_in) (flat_map-append (λ r. r) rows ((row ++ v ∷ []) ∷ []) ∙ ap (λ l. flat ++ l) (append-nil (row ++ v ∷ [])) ∙ sym (append_assoc flat row (v ∷ [])))
    ∙ filter_map-append text_in (flat ++ row) (v ∷ [])
    ∙ ap (λ l. filter_map text_in l ++ filter_map text_in (v ∷ [])) (ap (λ l. flat ++ l) (sym (append-nil row)) ∙ sym (flat_map-append (λ r. r) rows (row ∷ [])))

-- or of which the last is empty
pub texts_in-ended : (rows : List ValueRow) → texts_in (rows ++ [] ∷ []) ≡ texts_in rows
texts_in-ended rows = ap (filter_map text_in) (flat_map-append (λ r. r) rows ([] ∷ []) ∙ append-nil (flat_map (λ r. r) rows))

pub next_column : {P : ColumnDef → Type 0} (o : Option ColumnDef) → IsSomeAnd o P → (column : ColumnDef) × ((o ≡ Some column) × P column)
next_column None h = absurd h
next_column (Some column) h = (column, (refl, h))

-- what a batch is after one more value, whose word was put
pub record OneMore (columns : List ColumnDef) (texts new : List (List ℕ)) (rows : ℕ) (words row row' : List ℤ) (room : ℕ) (v : Value) : Type 0 where
  pub batch : IsBatch columns new rows words row' room
  pub same_rows : rows_of new columns rows words ≡ rows_of texts columns rows words
  pub next_row : row_of new columns row' ≡ row_of texts columns row ++ v ∷ []

pub one_more : (columns : List ColumnDef) (texts new : List (List ℕ)) (rows : ℕ) (words row : List ℤ) (room : ℕ) (v : Value) (word : ℤ) →
    IsBatch columns texts rows words row room → Begins texts new → new ≡ with_texts texts (filter_map text_in (v ∷ [])) →
    (column : ColumnDef) → slice_get columns (length row) ≡ Some column → IsValueOf column v → IsWord new column.kind word → value_of new column.kind word ≡ v →
    OneMore columns texts new rows words row (row ++ word ∷ []) room v
one_more columns texts new rows words row room v word old begins new_is column next fits allowed means =
    record {
      batch = record {
        some_columns = old.some_columns;
        room_for_row = old.room_for_row;
        words_fill_rows = old.words_fill_rows;
        rows_mean = MeanRows-Begins texts new columns _ begins old.rows_mean;
        row_means = record { short = short; allowed = AreWords-append new column word columns row next front_allowed allowed; fit = fit };
        exact_texts =
            new_is ∙ ap (λ t. with_texts t (filter_map text_in (v ∷ []))) old.exact_texts
            ∙ sym (fold-append with_text [] (texts_in (rows_of texts columns rows words ++ row_of texts columns row ∷ [])) (filter_map text_in (v ∷ [])))
            ∙ ap (with_texts []) (sym (texts_in-value (rows_of texts columns rows words) (row_of texts columns row) v))
            ∙ ap (λ rs. with_texts [] (texts_in (rs ++ (row_of texts columns row ++ v ∷ []) ∷ []))) (sym rows_same)
            ∙ ap (λ r. with_texts [] (texts_in (rows_of new columns rows words ++ r ∷ []))) (sym row_next);
      };
      same_rows = rows_same;
      next_row = row_next;
    }
  where
    here : length row < length columns
    here = slice_get_within columns (length row) column next

    short : length (row ++ word ∷ []) ≤ length columns
    short = omega (arith, here, length-append row (word ∷ []))

    rows_same : rows_of new columns rows words ≡ rows_of texts columns rows words
    rows_same = map-row_of-Begins texts new columns _ begins old.rows_mean.allowed

    front_allowed : AreWords new (take (length row) columns) row
    front_allowed = AreWords-Begins texts new begins _ _ old.row_means.allowed

    front_same : row_of new columns row ≡ row_of texts columns row
    front_same = sym (row_of-take new columns row) ∙ row_of-Begins texts new begins (take (length row) columns) row old.row_means.allowed ∙ row_of-take texts columns row

    row_next : row_of new columns (row ++ word ∷ []) ≡ row_of texts columns row ++ v ∷ []
    row_next = row_of-append new column word columns row next ∙ (λ i. front_same i ++ means i ∷ [])

    fit : IsRowOf (take (length (row ++ word ∷ [])) columns) (row_of new columns (row ++ word ∷ []))
    fit =
        let long : length (row_of texts columns row) ≡ length row = length-row_of texts columns row old.row_means.short in
        let before : IsRowOf (take (length (row_of texts columns row)) columns) (row_of texts columns row) = subst (λ n. IsRowOf (take n columns) (row_of texts columns row)) (sym long) old.row_means.fit in
        let now : IsRowOf (take (length (row_of texts columns row ++ v ∷ [])) columns) (row_of texts columns row ++ v ∷ []) = IsRowOf-append column v columns (row_of texts columns row) (ap (slice_get columns) long ∙ next) before fits in
        let as_long : length (row_of texts columns row ++ v ∷ []) ≡ length (row ++ word ∷ []) = omega (arith, long, length-append (row_of texts columns row) (v ∷ []), length-append row (word ∷ [])) in
        subst (λ n. IsRowOf (take n columns) (row_of new columns (row ++ word ∷ []))) as_long (subst (IsRowOf (take (length (row_of texts columns row ++ v ∷ [])) columns)) (sym row_next) now)

-- what is seen of a batch of these parts
abbrev pub batch_of : List ColumnDef → List (List ℕ) → ℕ → List ℤ → List ℤ → BatchState
batch_of columns texts rows words row = record { columns = columns; rows = rows_of texts columns rows words; row = row_of texts columns row }

module _ (columns : List ColumnDef) (texts : List (List ℕ)) (rows : ℕ) (words row : List ℤ) (room : ℕ) (v : Value)
    (old : IsBatch columns texts rows words row room) (next : FitsNext (batch_of columns texts rows words row) v) where
  -- the column that comes next
  pub next_of : (column : ColumnDef) × ((slice_get columns (length row) ≡ Some column) × IsValueOf column v)
  next_of = next_column (slice_get columns (length row)) (subst (λ n. IsSomeAnd (slice_get columns n) (λ column. IsValueOf column v)) (length-row_of texts columns row old.row_means.short) next)

  -- there is room for its word
  pub next_within : length row < room
  next_within = let (column, (at, fits)) = next_of in omega (arith, slice_get_within columns (length row) column at, old.room_for_row)

  -- and with it the batch has one value more
  pub put_value : (new : List (List ℕ)) (row' : List ℤ) (word : ℤ) → Begins texts new → new ≡ with_texts texts (filter_map text_in (v ∷ [])) →
      ((column : ColumnDef) → IsValueOf column v → IsWord new column.kind word × (value_of new column.kind word ≡ v)) → row' ≡ row ++ word ∷ [] →
      OneMore columns texts new rows words row row' room v
  put_value new row' word begins new_is means put =
      let (column, (at, fits)) = next_of in
      let (allowed, meant) = means column fits in
      subst (λ r. OneMore columns texts new rows words row r room v) (sym put) (one_more columns texts new rows words row room v word old begins new_is column at fits allowed meant)

  pub batch_of-put : (new : List (List ℕ)) (row' : List ℤ) → OneMore columns texts new rows words row row' room v →
      batch_of columns new rows words row' ≡ with_value (batch_of columns texts rows words row) v
  batch_of-put new row' one = λ i. record { columns = columns; rows = one.same_rows i; row = one.next_row i }

-- a row ends
pub ended : (columns : List ColumnDef) (texts : List (List ℕ)) (rows : ℕ) (words row : List ℤ) (room : ℕ) →
    IsBatch columns texts rows words row room → length (row_of texts columns row) ≡ length columns →
    IsBatch columns texts (rows + 1) (words ++ row) [] room × (batch_of columns texts (rows + 1) (words ++ row) [] ≡ with_row_ended (batch_of columns texts rows words row))
ended columns texts rows words row room old full = (
  record {
    some_columns = old.some_columns;
    room_for_row = old.room_for_row;
    words_fill_rows = omega (arith, old.words_fill_rows, long, length-append words row);
    rows_mean = record {
      allowed = All-same (AreWords texts columns) _ _ cut (All-push (AreWords texts columns) _ row old.rows_mean.allowed allowed);
      fit = All-same (λ w. IsRowOf columns (row_of texts columns w)) _ _ cut (All-push (λ w. IsRowOf columns (row_of texts columns w)) _ row old.rows_mean.fit fit);
    };
    row_means = record { short = omega arith; allowed = tt; fit = subst (λ r. AllZip IsValueOf [] r) (sym (row_of-nil texts columns)) tt };
    exact_texts =
        old.exact_texts ∙ ap (with_texts [])
        (sym (texts_in-ended (rows_of texts columns rows words ++ row_of texts columns row ∷ []))
        ∙ (λ i. texts_in (sym rows_now i ++ sym (row_of-nil texts columns) i ∷ [])));
  },
  λ i. record { columns = columns; rows = rows_now i; row = row_of-nil texts columns i },
)
  where
    long : length row ≡ length columns
    long = omega (arith, full, length-row_of texts columns row old.row_means.short)

    all_columns : take (length row) columns ≡ columns
    all_columns = take_all (length row) columns (omega (arith, long))

    allowed : AreWords texts columns row
    allowed = subst (λ cs. AreWords texts cs row) all_columns old.row_means.allowed

    fit : IsRowOf columns (row_of texts columns row)
    fit = subst (λ cs. IsRowOf cs (row_of texts columns row)) all_columns old.row_means.fit

    cut : cut_rows (length columns) (rows + 1) (words ++ row) ≡ cut_rows (length columns) rows words ++ row ∷ []
    cut = cut_rows-append (length columns) rows words row old.words_fill_rows long

    rows_now : rows_of texts columns (rows + 1) (words ++ row) ≡ rows_of texts columns rows words ++ row_of texts columns row ∷ []
    rows_now = ap (map (row_of texts columns)) cut ∙ map-append (row_of texts columns) (cut_rows (length columns) rows words) (row ∷ [])

-- room may grow
pub more_room : (columns : List ColumnDef) (texts : List (List ℕ)) (rows : ℕ) (words row : List ℤ) (room room' : ℕ) → IsBatch columns texts rows words row room → room ≤ room' → IsBatch columns texts rows words row room'
more_room columns texts rows words row room room' b more = record {
  some_columns = b.some_columns;
  room_for_row = omega (arith, b.room_for_row, more);
  words_fill_rows = b.words_fill_rows;
  rows_mean = b.rows_mean;
  row_means = b.row_means;
  exact_texts = b.exact_texts;
}

-- a batch without rows
pub no_batch : (columns : List ColumnDef) (room : ℕ) → 1 ≤ length columns → length columns ≤ room → IsBatch columns [] 0 [] [] room
no_batch columns room some enough = record {
  some_columns = some;
  room_for_row = enough;
  words_fill_rows = omega arith;
  rows_mean = record { allowed = All-nil (AreWords [] columns); fit = All-nil (λ words. IsRowOf columns (row_of [] columns words)) };
  row_means = record { short = omega arith; allowed = tt; fit = subst (λ r. AllZip IsValueOf [] r) (sym (row_of-nil [] columns)) tt };
  exact_texts = ap (λ r. with_texts [] (texts_in (r ∷ []))) (sym (row_of-nil [] columns));
}
