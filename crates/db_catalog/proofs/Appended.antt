-- A database after an append: the tables that are there mean the same, and one has more rows.
use Rattle.std.proofs.Common.{◌≡◌, ◌∙◌, ℕ, zero, suc, ◌+◌, ◌<◌, ◌≤◌, ◌*◌, true, false, ◌||◌, List, [], ◌∷◌, ◌++◌, length, map, get_or, set, ℤ, refl, sym, ap, subst, arith, append-nil, append_assoc, true≢false, if◌then◌else◌, length-set, length-append, fold}
use Rattle.std.specs.Prelude.{All, nat_eq}
use Rattle.std.specs.Cmp.{nat_eq_equiv}
use Rattle.std.specs.List.{IsDistinct, AllByRecursion, list_any}
use Rattle.std.specs.Str.{bytes_eq}
use Rattle.std.proofs.lemmas.List.{map-append, length-map}
use Rattle.std.proofs.lemmas.List.Folds.{list_any-append}
use Rattle.std.proofs.lemmas.List.Elements.{All-append, All-push, All-nil, All-set, All-weaker, All-head, All-tail}
use Rattle.std.proofs.lemmas.Map.Keys.{IsDistinct-head, IsDistinct-tail, IsDistinct-push}
use Rattle.std.proofs.lemmas.Slice.Eq.{bytes_eq-Decides}
use Rattle.sql_values.specs.declared.column.ColumnDef.{ColumnDef}
use Rattle.sql_values.specs.Dictionary.{has_text, with_text, with_texts, Begins}
use Rattle.sql_values.specs.Limits.{max_tables, max_columns}
use Rattle.sql_values.proofs.Dictionary.{with_texts-with_texts, Begins-with_texts, Begins_itself}
use Rattle.heap_pages.specs.Rows.{cut_rows}
use Rattle.sql_values.specs.Stored.{ValueRow, IsRowOf, AreWords, row_of, texts_in}
use Rattle.db_catalog.specs.declared.table.Table.{Table}
use Rattle.db_catalog.specs.Database.{new_table, table_at, more_rows, more_indexed, with_rows}
use Rattle.db_catalog.specs.Indexes.{kept_index}
use Rattle.db_catalog.specs.Kept.{MeanRows, SameRows, TakesWords, AppendsWords, IndexesColumn, with_column, IsBatch, stored_table, kept_words, IsKept, AreKept}
use Rattle.db_catalog.specs.Refused.{words_in}
use Rattle.db_catalog.proofs.BatchParts.{rows_of, texts_in-ended, map-row_of-Begins, MeanRows-Begins}
use Rattle.db_catalog.proofs.Tables.{database_of, table_at-database_of, kept_at}

-- different texts, none of which is there, all come behind
behind : (acc texts : List (List ℕ)) → IsDistinct bytes_eq texts → AllByRecursion (λ t. has_text acc t ≡ false) texts → with_texts acc texts ≡ acc ++ texts
behind acc [] distinct new = sym (append-nil acc)
behind acc (t ∷ ts) distinct new =
    ap (λ l. with_texts l ts) (ap (λ b. if b then acc else acc ++ t ∷ []) new.0)
    ∙ behind (acc ++ t ∷ []) ts (IsDistinct-tail bytes_eq t ts distinct) (others ts (IsDistinct-head bytes_eq t ts distinct) new.1)
    ∙ append_assoc acc (t ∷ []) ts
  where
    others : (ts : List (List ℕ)) → AllByRecursion (λ u. bytes_eq t u ≡ false) ts → AllByRecursion (λ u. has_text acc u ≡ false) ts → AllByRecursion (λ u. has_text (acc ++ t ∷ []) u ≡ false) ts
    others [] apart new = tt
    others (u ∷ us) apart new = (list_any-append (bytes_eq u) acc (t ∷ []) ∙ (λ i. new.0 i || (turned i || false)), others us apart.1 new.1)
      where
        turned : bytes_eq u t ≡ false
        turned = elim (bytes_eq u t) as (λ b. bytes_eq u t ≡ b → b ≡ false) [ true ↦ λ e. absurd (true≢false (sym ((bytes_eq-Decides t u).1 (sym ((bytes_eq-Decides u t).0 e))) ∙ apart.0)) | false ↦ λ e. refl ] refl

pub with_texts-distinct : (texts : List (List ℕ)) → IsDistinct bytes_eq texts → with_texts [] texts ≡ texts
with_texts-distinct texts distinct = behind [] texts distinct (none texts)
  where
    none : (ts : List (List ℕ)) → AllByRecursion (λ t. has_text [] t ≡ false) ts
    none [] = tt
    none (t ∷ ts) = (refl, none ts)

map-set : {X Y : Type 0} (f : X → Y) (xs : List X) (i : ℕ) (y : X) → map f (set xs i y) ≡ set (map f xs) i (f y)
map-set f [] i y = refl
map-set f (x ∷ xs) zero y = refl
map-set f (x ∷ xs) (suc i) y = ap (λ l. f x ∷ l) (map-set f xs i y)

-- a table is seen as before where more texts come
stored_table-Begins : (texts new : List (List ℕ)) (table : Table) → Begins texts new → IsKept texts table → stored_table new table ≡ stored_table texts table
stored_table-Begins texts new table begins kept = ap (λ rows. record { name = table.name; columns = table.columns.items; indexed = table.indexes.columns; rows = rows }) (map-row_of-Begins texts new table.columns.items table.heap.rows begins kept.rows.allowed)

tables-Begins : (texts new : List (List ℕ)) (tables : List Table) → Begins texts new → ((k : ℕ) (d : Table) → k < length tables → IsKept texts (get_or tables k d)) → map (stored_table new) tables ≡ map (stored_table texts) tables
tables-Begins texts new [] begins kept = refl
tables-Begins texts new (t ∷ ts) begins kept =
    (λ i. stored_table-Begins texts new t begins (All-head (IsKept texts) t ts kept) i ∷ tables-Begins texts new ts begins (All-tail (IsKept texts) t ts kept) i)

IsKept-Begins : (texts new : List (List ℕ)) (table : Table) → Begins texts new → IsKept texts table → IsKept new table
IsKept-Begins texts new table begins kept = record {
  some_columns = kept.some_columns;
  few_columns = kept.few_columns;
  width = kept.width;
  rows = MeanRows-Begins texts new table.columns.items table.heap.rows begins kept.rows;
  indexes = kept.indexes;
  indexed_once = kept.indexed_once;
}

names_kept : (tables : List Table) (number : ℕ) (table table' : Table) → number < length tables → table ≡ get_or tables number table → table'.name ≡ table.name →
    map (λ table. table.name) (set tables number table') ≡ map (λ table. table.name) tables
names_kept [] number table table' there is same = refl
names_kept (t ∷ ts) zero table table' there is same = ap (λ n. n ∷ map (λ table. table.name) ts) (same ∙ ap (λ t. t.name) is)
names_kept (t ∷ ts) (suc number) table table' there is same = ap (λ l. t.name ∷ l) (names_kept ts number table table' (omega (arith, there)) is same)

-- what an append makes of the tables
pub record HasAppended (names texts new : List (List ℕ)) (tables : List Table) (number : ℕ) (table' : Table) (values : List ValueRow) : Type 0 where
  pub kept : AreKept names new (set tables number table')
  pub seen : map (stored_table new) (set tables number table') ≡ set (map (stored_table texts) tables) number (more_rows (table_at (database_of texts tables) number) values)

pub appended : (names texts new : List (List ℕ)) (tables : List Table) (number : ℕ) (table table' : Table) (rows : List (List ℤ)) (values : List ValueRow) →
    AreKept names texts tables → number < length tables → table ≡ get_or tables number table → Begins texts new → IsDistinct bytes_eq new →
    table'.name ≡ table.name → table'.columns ≡ table.columns → table'.heap.columns ≡ table.heap.columns → table'.heap.rows ≡ table.heap.rows ++ rows →
    table'.indexes.columns ≡ table.indexes.columns → table'.indexes.entries ≡ map (kept_index table'.heap.rows) table.indexes.columns →
    MeanRows new table.columns.items rows → map (row_of new table.columns.items) rows ≡ values →
    HasAppended names texts new tables number table' values
appended names texts new tables number table table' rows values old there is begins distinct name columns width joined indexed entries mean valued = record {
  kept = record {
    names_of_tables = old.names_of_tables ∙ sym (names_kept tables number table table' there is name);
    few_tables = omega (arith, length-set tables number table', old.few_tables);
    each_kept = All-set (IsKept new) tables number table' kept_now (All-weaker (IsKept texts) (IsKept new) (λ t k. IsKept-Begins texts new t begins k) tables old.each_kept);
    distinct_texts = distinct;
  };
  seen =
      map-set (stored_table new) tables number table'
      ∙ (λ i. set (tables-Begins texts new tables begins old.each_kept i) number (seen_now i));
}
  where
    kept : IsKept texts table
    kept = kept_at names texts tables number table old there is

    before : MeanRows new table.columns.items table.heap.rows
    before = MeanRows-Begins texts new table.columns.items table.heap.rows begins kept.rows

    all : MeanRows new table.columns.items (table.heap.rows ++ rows)
    all = record {
      allowed = All-append (AreWords new table.columns.items) table.heap.rows rows before.allowed mean.allowed;
      fit = All-append (λ words. IsRowOf table.columns.items (row_of new table.columns.items words)) table.heap.rows rows before.fit mean.fit;
    }

    kept_now : IsKept new table'
    kept_now = record {
      some_columns = omega (arith, kept.some_columns, ap (λ c. length c.items) columns);
      few_columns = omega (arith, kept.few_columns, ap (λ c. length c.items) columns);
      width = width ∙ kept.width ∙ ap (λ c. length c.items) (sym columns);
      rows = subst (λ c. MeanRows new c.items table'.heap.rows) (sym columns) (subst (MeanRows new table.columns.items) (sym joined) all);
      indexes = record {
        there = subst (All (λ column. column < table'.heap.columns)) (sym indexed) (subst (λ n. All (λ column. column < n) table.indexes.columns) (sym width) kept.indexes.there);
        entries = entries ∙ ap (map (kept_index table'.heap.rows)) (sym indexed);
      };
      indexed_once = subst (IsDistinct nat_eq) (sym indexed) kept.indexed_once;
    }

    rows_seen : map (row_of new table.columns.items) (table.heap.rows ++ rows) ≡ map (row_of texts table.columns.items) table.heap.rows ++ values
    rows_seen =
        map-append (row_of new table.columns.items) table.heap.rows rows
        ∙ (λ i. map-row_of-Begins texts new table.columns.items table.heap.rows begins kept.rows.allowed i ++ valued i)

    seen_now : stored_table new table' ≡ more_rows (table_at (database_of texts tables) number) values
    seen_now =
        (λ i. record { name = name i; columns = (columns i).items; indexed = indexed i; rows = map (row_of new (columns i).items) (joined i) })
        ∙ (λ i. record { name = table.name; columns = table.columns.items; indexed = table.indexes.columns; rows = rows_seen i })
        ∙ ap (λ t. more_rows t values) (sym (table_at-database_of texts tables number table there is))

-- the texts of a batch are those of its rows
pub batch_texts : (columns : List ColumnDef) (more : List (List ℕ)) (rows : ℕ) (words row : List ℤ) (room : ℕ) (texts : List (List ℕ)) →
    IsBatch columns more rows words row room → row_of more columns row ≡ [] → with_texts texts more ≡ with_texts texts (texts_in (rows_of more columns rows words))
batch_texts columns more rows words row room texts batch whole =
    ap (with_texts texts) (batch.exact_texts ∙ ap (λ r. with_texts [] (texts_in (rows_of more columns rows words ++ r ∷ []))) whole ∙ ap (with_texts []) (texts_in-ended (rows_of more columns rows words)))
    ∙ with_texts-with_texts texts [] (texts_in (rows_of more columns rows words))

-- the words of a batch that were appended to a table of a database: what is known of both before, and what was made of them
pub record IsBatchAppended (names texts more new : List (List ℕ)) (tables tables' : List Table) (number : ℕ) (columns : List ColumnDef) (rows : ℕ) (words words' row : List ℤ) (room : ℕ) : Type 0 where
  pub kept : AreKept names texts tables
  pub there : number < length tables
  pub batch : IsBatch columns more rows words row room
  pub whole : row_of more columns row ≡ []
  pub same_columns : columns ≡ (table_at (database_of texts tables) number).columns
  pub is_new : new ≡ with_texts texts more
  pub distinct : IsDistinct bytes_eq new
  pub same : SameRows columns more new (cut_rows (length columns) rows words) (cut_rows (length columns) rows words')
  pub appends : AppendsWords number rows words' tables tables'

-- a database after that
pub batch_appended : {names texts more new : List (List ℕ)} {tables tables' : List Table} {number : ℕ} {columns : List ColumnDef} {rows : ℕ} {words words' row : List ℤ} {room : ℕ} →
    IsBatchAppended names texts more new tables tables' number columns rows words words' row room →
    AreKept names new tables' × (database_of new tables' ≡ with_rows (database_of texts tables) number (rows_of more columns rows words))
batch_appended {names = names} {texts = texts} {more = more} {new = new} {tables = tables} {tables' = tables'} {number = number} {columns = columns} {rows = rows} {words = words} {words' = words'} {row = row} {room = room} is = (
  subst (AreKept names new) (sym tables_are) done.kept,
  λ i. record { tables = (ap (map (stored_table new)) tables_are ∙ done.seen) i; index_names = []; texts = (is.is_new ∙ batch_texts columns more rows words row room texts is.batch is.whole) i },
)
  where
    table : Table
    table = is.appends.table

    columns_are : columns ≡ table.columns.items
    columns_are = is.same_columns ∙ ap (λ t. t.columns) (table_at-database_of texts tables number table is.there is.appends.there)

    width_is : table.heap.columns ≡ length columns
    width_is = (kept_at names texts tables number table is.kept is.there is.appends.there).width ∙ ap length (sym columns_are)

    mean : MeanRows new table.columns.items (cut_rows table.heap.columns rows words')
    mean = subst (λ cs. MeanRows new cs (cut_rows table.heap.columns rows words')) columns_are (subst (λ w. MeanRows new columns (cut_rows w rows words')) (sym width_is) is.same.mean)

    valued : map (row_of new table.columns.items) (cut_rows table.heap.columns rows words') ≡ rows_of more columns rows words
    valued = (λ i. map (row_of new (sym columns_are i)) (cut_rows (width_is i) rows words')) ∙ is.same.same

    takes : TakesWords rows words' table is.appends.after
    takes = is.appends.takes

    after : Table
    after = record table { heap = takes.heap; indexes = takes.indexes }

    tables_are : tables' ≡ set tables number after
    tables_are = is.appends.tables ∙ ap (set tables number) takes.table

    done : HasAppended names texts new tables number after (rows_of more columns rows words)
    done = appended names texts new tables number table after (cut_rows table.heap.columns rows words') (rows_of more columns rows words)
        is.kept is.there is.appends.there (subst (Begins texts) (sym is.is_new) (Begins-with_texts texts texts more (Begins_itself texts))) is.distinct refl refl takes.columns takes.appended takes.indexed takes.entries mean valued

none_indexed : IsDistinct nat_eq []
unfolding IsDistinct
none_indexed = tt

-- a database after a column was indexed
pub column_indexed : (names texts : List (List ℕ)) (tables tables' : List Table) (number column : ℕ) → AreKept names texts tables → number < length tables →
    column < length (table_at (database_of texts tables) number).columns → list_any (nat_eq column) (table_at (database_of texts tables) number).indexed ≡ false →
    IndexesColumn number column tables tables' →
    AreKept names texts tables' × (map (stored_table texts) tables' ≡ set (map (stored_table texts) tables) number (more_indexed (table_at (database_of texts tables) number) column))
column_indexed names texts tables tables' number column kept there exists free made = (
  subst (AreKept names texts) (sym made.tables) (record {
    names_of_tables = kept.names_of_tables ∙ sym (names_kept tables number table (with_column table column) there made.there refl);
    few_tables = omega (arith, length-set tables number (with_column table column), kept.few_tables);
    each_kept = All-set (IsKept texts) tables number (with_column table column) now kept.each_kept;
    distinct_texts = kept.distinct_texts;
  }),
  ap (map (stored_table texts)) made.tables ∙ map-set (stored_table texts) tables number (with_column table column)
      ∙ ap (λ t. set (map (stored_table texts) tables) number (more_indexed t column)) (sym seen),
)
  where
    table : Table
    table = made.table

    seen : table_at (database_of texts tables) number ≡ stored_table texts table
    seen = table_at-database_of texts tables number table there made.there

    here : IsKept texts table
    here = kept_at names texts tables number table kept there made.there

    now : IsKept texts (with_column table column)
    now = record {
      some_columns = here.some_columns;
      few_columns = here.few_columns;
      width = here.width;
      rows = here.rows;
      indexes = record {
        there = All-push (λ c. c < table.heap.columns) table.indexes.columns column here.indexes.there (omega (arith, exists, ap (λ t. length t.columns) seen, here.width));
        entries =
            ap (λ l. l ++ kept_index table.heap.rows column ∷ []) here.indexes.entries
            ∙ sym (map-append (kept_index table.heap.rows) table.indexes.columns (column ∷ []));
      };
      indexed_once = IsDistinct-push nat_eq_equiv table.indexes.columns column here.indexed_once (sym (ap (λ t. list_any (nat_eq column) t.indexed) seen) ∙ free);
    }

-- a table without rows comes behind the others
pub table_appended : (names texts : List (List ℕ)) (tables : List Table) (table : Table) (name : List ℕ) (columns : List ColumnDef) →
    AreKept names texts tables → has_text names name ≡ false → length tables + 1 ≤ max_tables → 1 ≤ length columns → length columns ≤ max_columns →
    table.name ≡ name → table.columns.items ≡ columns → table.heap.columns ≡ length columns → table.heap.rows ≡ [] →
    table.indexes ≡ record { columns = []; entries = [] } → AreKept (with_text names name) texts (tables ++ table ∷ [])
table_appended names texts tables table name columns kept new few some few_columns named has wide none unindexed = record {
  names_of_tables =
      ap (λ b. if b then names else names ++ name ∷ []) new
      ∙ (λ i. kept.names_of_tables i ++ sym named i ∷ []) ∙ sym (map-append (λ t. t.name) tables (table ∷ []));
  few_tables = omega (arith, few, length-append tables (table ∷ []));
  each_kept = All-push (IsKept texts) tables table kept.each_kept (record {
    some_columns = omega (arith, some, ap length has);
    few_columns = omega (arith, few_columns, ap length has);
    width = wide ∙ ap length (sym has);
    rows = subst (MeanRows texts table.columns.items) (sym none) (record { allowed = All-nil (AreWords texts table.columns.items); fit = All-nil (λ words. IsRowOf table.columns.items (row_of texts table.columns.items words)) });
    indexes = record {
      there = subst (λ x. All (λ column. column < table.heap.columns) x.columns) (sym unindexed) (All-nil (λ column. column < table.heap.columns));
      entries = ap (λ x. x.entries) unindexed ∙ sym (ap (λ x. map (kept_index table.heap.rows) x.columns) unindexed);
    };
    indexed_once = subst (λ x. IsDistinct nat_eq x.columns) (sym unindexed) none_indexed;
  });
  distinct_texts = kept.distinct_texts;
}

-- and is seen behind them
pub table_seen : (texts : List (List ℕ)) (tables : List Table) (table : Table) (name : List ℕ) (columns : List ColumnDef) →
    table.name ≡ name → table.columns.items ≡ columns → table.heap.rows ≡ [] → table.indexes ≡ record { columns = []; entries = [] } →
    map (stored_table texts) (tables ++ table ∷ []) ≡ map (stored_table texts) tables ++ new_table name columns ∷ []
table_seen texts tables table name columns named has none unindexed =
    map-append (stored_table texts) tables (table ∷ [])
    ∙ (λ i. map (stored_table texts) tables ++ record { name = named i; columns = has i; indexed = (unindexed i).columns; rows = map (row_of texts (has i)) (none i) } ∷ [])

-- the words of tables that are seen
pub words_seen : (texts : List (List ℕ)) (tables : List Table) → words_in (map (stored_table texts) tables) ≡ kept_words tables
words_seen texts tables = by tables 0
  where
    by : (tables : List Table) (sum : ℕ) → fold (λ a t. a + length t.rows * length t.columns) sum (map (stored_table texts) tables) ≡ fold (λ a t. a + length t.heap.rows * length t.columns.items) sum tables
    by [] sum = refl
    by (t ∷ ts) sum =
        ap (λ n. fold (λ a t. a + length t.rows * length t.columns) (sum + n * length t.columns.items) (map (stored_table texts) ts)) (length-map t.heap.rows (row_of texts t.columns.items))
        ∙ by ts (sum + length t.heap.rows * length t.columns.items)
