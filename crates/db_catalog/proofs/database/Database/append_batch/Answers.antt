use Rattle.std.proofs.Common.{List, ℕ, ℤ, rules, ◌≡◌, ◌*◌, ◌^◌, ◌≤◌, ◌∙◌, ◌++◌, ◌<◌, [], sym, ap, subst, length, take, drop, slice_get, None, Err, arith}
use Rattle.std.specs.Prelude.{IsSomeAnd}
use Rattle.std.proofs.lemmas.List.{length-map, take_at}
use Rattle.sql_values.specs.Dictionary.{with_texts, Begins}
use Rattle.sql_values.specs.Stored.{ValueRow, row_of, texts_in}
use Rattle.sql_values.specs.declared.column.ColumnDef.{ColumnDef}
use Rattle.sql_values.proofs.Dictionary.{Begins-with_texts, Begins_itself, take-Begins, length-Begins}
use Rattle.heap_pages.specs.Rows.{cut_rows}
use Rattle.db_catalog.specs.Database.{table_at, with_rows}
use Rattle.db_catalog.specs.Refused.{Refuses, room_fault, texts_fault}
use Rattle.db_catalog.specs.Kept.{AreKept, MeanRows, SameRows, AppendsWords, HasWords}
use Rattle.db_catalog.proofs.Refusals.{out_of_memory, unchanged_on, exact_refuses, limit_told, no_limit, not_first, handed_on, handed_on_first, on_err, on_ok}
use Rattle.db_catalog.proofs.Cut.{long_cut}
use Rattle.db_catalog.proofs.BatchParts.{rows_of}
use Rattle.db_catalog.proofs.Tables.{database_of, named, is_kept, has_words}
use Rattle.db_catalog.proofs.Appended.{batch_texts, IsBatchAppended, batch_appended}
use Rattle.db_catalog.proofs.database.Database.append_batch.Goals as goal

-- a batch has as many rows as its words are cut into
counted : (texts : List (List ℕ)) (columns : List ColumnDef) (rows : ℕ) (words : List ℤ) (seen : List ValueRow) → rows_of texts columns rows words ≡ seen → length seen ≡ rows
counted texts columns rows words seen is =
    ap length (sym is) ∙ length-map (cut_rows (length columns) rows words) (row_of texts columns) ∙ long_cut (length columns) rows words

pub returns-in_err-check_room-clause-limit : goal.returns-in_err-check_room-clause-limit
returns-in_err-check_room-clause-limit c =
    let count = counted c.batch.inside.texts c.batch.inside.columns.items c.batch.inside.rows c.batch.inside.words.items c.args.batch.rows (ap (λ b. b.rows) c.batch.view_is) in
    limit_told (room_fault c.args.self.now c.args.table (length c.args.batch.rows)) c.from_residual.result c.in_err-check_room.field-0.0 c.from_residual.ensures.1
    (ap (room_fault c.args.self.now c.args.table) count ∙ c.in_err-check_room.ensures)

pub returns-in_err-check_room-clause-refuses : goal.returns-in_err-check_room-clause-refuses
returns-in_err-check_room-clause-refuses c =
    let seen_rows : rows_of c.batch.inside.texts c.batch.inside.columns.items c.batch.inside.rows c.batch.inside.words.items ≡ c.args.batch.rows = ap (λ b. b.rows) c.batch.view_is in
    let count = counted c.batch.inside.texts c.batch.inside.columns.items c.batch.inside.rows c.batch.inside.words.items c.args.batch.rows seen_rows in
    handed_on_first (room_fault c.args.self.now c.args.table (length c.args.batch.rows)) (texts_fault (with_texts c.args.self.now.texts (texts_in c.args.batch.rows))) c.from_residual.result c.in_err-check_room.field-0.0 c.from_residual.ensures.1
    (exact_refuses {T = Unit {0}} _ (Err c.in_err-check_room.field-0.0) (ap (room_fault c.args.self.now c.args.table) count ∙ c.in_err-check_room.ensures))

pub returns-in_err-settle-clause-refuses : goal.returns-in_err-settle-clause-refuses
returns-in_err-settle-clause-refuses c =
    let seen_rows : rows_of c.batch.inside.texts c.batch.inside.columns.items c.batch.inside.rows c.batch.inside.words.items ≡ c.args.batch.rows = ap (λ b. b.rows) c.batch.view_is in
    let count = counted c.batch.inside.texts c.batch.inside.columns.items c.batch.inside.rows c.batch.inside.words.items c.args.batch.rows seen_rows in
    let whole : row_of c.batch.inside.texts c.batch.inside.columns.items c.batch.inside.row.items ≡ [] = ap (λ b. b.row) c.batch.view_is ∙ c.requires.whole in
    let all_texts : with_texts c.args.self.now.texts (texts_in c.args.batch.rows) ≡ with_texts c.self.inside.texts c.batch.inside.texts =
    (λ i. with_texts (sym c.self.view_is i).texts (texts_in (sym seen_rows i)))
    ∙ sym (batch_texts c.batch.inside.columns.items c.batch.inside.texts c.batch.inside.rows c.batch.inside.words.items c.batch.inside.row.items _ c.self.inside.texts c.batch.invariant whole) in
    let room : room_fault c.args.self.now c.args.table (length c.args.batch.rows) ≡ None = ap (room_fault c.args.self.now c.args.table) count ∙ c.in_ok-check_room.ensures in
    not_first (room_fault c.args.self.now c.args.table (length c.args.batch.rows)) (texts_fault (with_texts c.args.self.now.texts (texts_in c.args.batch.rows))) c.from_residual-in_err-settle.result room
    (handed_on (texts_fault (with_texts c.args.self.now.texts (texts_in c.args.batch.rows))) c.from_residual-in_err-settle.result c.in_err-settle.field-0.0 c.from_residual-in_err-settle.ensures.1
    (subst (λ t. Refuses {T = Unit {0}} (texts_fault t) (Err c.in_err-settle.field-0.0)) (sym all_texts) c.in_err-settle.ensures.refuses))

pub prove-unreachable-requires : goal.prove-unreachable-requires
prove-unreachable-requires c =
    let begins : Begins c.self.inside.texts c.settle.new.texts = subst (Begins c.self.inside.texts) (sym c.in_ok-settle.ensures.texts) (Begins-with_texts _ _ c.batch.inside.texts (Begins_itself _)) in
    omega (arith, length-Begins c.self.inside.texts c.settle.new.texts begins, c.len-before.ensures.count, c.len.ensures.count, c.if-prove.true)

pub append_words-requires-clause-filled : goal.append_words-requires-clause-filled
append_words-requires-clause-filled c =
    let words_now : take c.batch.inside.words.len (c.settle.new.words ++ drop (length c.settle.new.words) c.batch.inside.words.items) ≡ c.settle.new.words =
    take_at c.settle.new.words _ c.batch.inside.words.len (c.settle.auto.words ∙ c.deref_mut.ensures.len) in
    let columns : c.batch.inside.columns.items ≡ (table_at (database_of c.self.inside.texts c.self.inside.tables.items) c.args.table).columns =
    ap (λ b. b.columns) c.batch.view_is ∙ c.requires.columns ∙ ap (λ db. (table_at db c.args.table).columns) (sym c.self.view_is) in
    let few : c.batch.inside.rows ≤ 2 ^ 62 = search rules in
    subst (λ ts. IsSomeAnd (slice_get ts c.args.table) (HasWords (length (take c.batch.inside.words.len (c.settle.new.words ++ drop (length c.settle.new.words) c.batch.inside.words.items))) c.batch.inside.rows)) (sym c.deref_mut-2.ensures.value)
    (has_words c.self.inside.names c.self.inside.texts c.self.inside.tables.items c.args.table _ c.batch.inside.rows c.batch.inside.columns.items c.self.invariant (is_kept _ _ _ _ c.self.view_is c.requires.there) columns few
    (ap length words_now ∙ c.settle.auto.words ∙ ap length c.deref_mut.ensures.value ∙ c.batch.invariant.words_fill_rows))

pub invariant_of-self-then-is_err : goal.invariant_of-self-then-is_err
invariant_of-self-then-is_err c =
    let begins : Begins c.self.inside.texts c.settle.new.texts = subst (Begins c.self.inside.texts) (sym c.in_ok-settle.ensures.texts) (Begins-with_texts _ _ c.batch.inside.texts (Begins_itself _)) in
    let tables_now : take c.self.inside.tables.len (c.append_words.new.tables ++ drop (length c.append_words.new.tables) c.self.inside.tables.items) ≡ c.append_words.new.tables =
    take_at c.append_words.new.tables _ c.self.inside.tables.len (c.append_words.auto.tables ∙ c.deref_mut-2.ensures.len) in
    let same_tables : c.append_words.new.tables ≡ c.self.inside.tables.items = on_err c.append_words.result (sym c.is_err.ensures.value ∙ c.if-is_err.true) c.append_words.ensures.unchanged ∙ c.deref_mut-2.ensures.value in
    let same_texts : c.cut.new.self ≡ c.self.inside.texts = c.cut.ensures ∙ ap (λ n. take n c.settle.new.texts) c.len-before.ensures.count ∙ take-Begins c.self.inside.texts c.settle.new.texts begins in
    subst (AreKept c.self.inside.names c.cut.new.self) (sym (tables_now ∙ same_tables)) (subst (λ t. AreKept c.self.inside.names t c.self.inside.tables.items) (sym same_texts) c.self.invariant)

pub returns-then-is_err-clause-appended : goal.returns-then-is_err-clause-appended
returns-then-is_err-clause-appended c =
    let begins : Begins c.self.inside.texts c.settle.new.texts = subst (Begins c.self.inside.texts) (sym c.in_ok-settle.ensures.texts) (Begins-with_texts _ _ c.batch.inside.texts (Begins_itself _)) in
    let tables_now : take c.self.inside.tables.len (c.append_words.new.tables ++ drop (length c.append_words.new.tables) c.self.inside.tables.items) ≡ c.append_words.new.tables =
    take_at c.append_words.new.tables _ c.self.inside.tables.len (c.append_words.auto.tables ∙ c.deref_mut-2.ensures.len) in
    let same_tables : c.append_words.new.tables ≡ c.self.inside.tables.items = on_err c.append_words.result (sym c.is_err.ensures.value ∙ c.if-is_err.true) c.append_words.ensures.unchanged ∙ c.deref_mut-2.ensures.value in
    let same_texts : c.cut.new.self ≡ c.self.inside.texts = c.cut.ensures ∙ ap (λ n. take n c.settle.new.texts) c.len-before.ensures.count ∙ take-Begins c.self.inside.texts c.settle.new.texts begins in
    record { made = tt; unchanged = (λ i. named c.self.inside.index_names (database_of (same_texts i) ((tables_now ∙ same_tables) i))) ∙ c.self.view_is }

done : (c : goal.Else-is_err) → AreKept c.self.inside.names c.settle.new.texts c.append_words.new.tables
    × (database_of c.settle.new.texts c.append_words.new.tables ≡ with_rows (database_of c.self.inside.texts c.self.inside.tables.items) c.args.table (rows_of c.batch.inside.texts c.batch.inside.columns.items c.batch.inside.rows c.batch.inside.words.items))
done c =
    let words_now : take c.batch.inside.words.len (c.settle.new.words ++ drop (length c.settle.new.words) c.batch.inside.words.items) ≡ c.settle.new.words =
    take_at c.settle.new.words _ c.batch.inside.words.len (c.settle.auto.words ∙ c.deref_mut.ensures.len) in
    let there : c.args.table < length c.self.inside.tables.items = is_kept _ _ _ _ c.self.view_is c.requires.there in
    let columns : c.batch.inside.columns.items ≡ (table_at (database_of c.self.inside.texts c.self.inside.tables.items) c.args.table).columns =
    ap (λ b. b.columns) c.batch.view_is ∙ c.requires.columns ∙ ap (λ db. (table_at db c.args.table).columns) (sym c.self.view_is) in
    let whole : row_of c.batch.inside.texts c.batch.inside.columns.items c.batch.inside.row.items ≡ [] = ap (λ b. b.row) c.batch.view_is ∙ c.requires.whole in
    let appends : AppendsWords c.args.table c.batch.inside.rows c.settle.new.words c.self.inside.tables.items c.append_words.new.tables =
    subst (λ ts. AppendsWords c.args.table c.batch.inside.rows c.settle.new.words ts c.append_words.new.tables) c.deref_mut-2.ensures.value
    (subst (λ ws. AppendsWords c.args.table c.batch.inside.rows ws c.deref_mut-2.result.now c.append_words.new.tables) words_now
    (on_ok c.append_words.result (sym c.is_err.ensures.value ∙ c.if-is_err.false) c.append_words.ensures.appended)) in
    let same : SameRows c.batch.inside.columns.items c.batch.inside.texts c.settle.new.texts (cut_rows (length c.batch.inside.columns.items) c.batch.inside.rows c.batch.inside.words.items) (cut_rows (length c.batch.inside.columns.items) c.batch.inside.rows c.settle.new.words) =
    subst (λ cs. SameRows cs c.batch.inside.texts c.settle.new.texts (cut_rows (length cs) c.batch.inside.rows c.batch.inside.words.items) (cut_rows (length cs) c.batch.inside.rows c.settle.new.words)) c.deref.ensures.value
    (subst (λ ws. SameRows c.deref.result.now c.batch.inside.texts c.settle.new.texts (cut_rows (length c.deref.result.now) c.batch.inside.rows ws) (cut_rows (length c.deref.result.now) c.batch.inside.rows c.settle.new.words)) c.deref_mut.ensures.value c.in_ok-settle.ensures.words) in
    let appended : IsBatchAppended c.self.inside.names c.self.inside.texts c.batch.inside.texts c.settle.new.texts c.self.inside.tables.items c.append_words.new.tables c.args.table c.batch.inside.columns.items c.batch.inside.rows c.batch.inside.words.items c.settle.new.words c.batch.inside.row.items _ = record {
      kept = c.self.invariant;
      there = there;
      batch = c.batch.invariant;
      whole = whole;
      same_columns = columns;
      is_new = c.in_ok-settle.ensures.texts;
      distinct = c.len.ensures.distinct;
      same = same;
      appends = appends;
    } in
    batch_appended appended

pub invariant_of-self-else-is_err : goal.invariant_of-self-else-is_err
invariant_of-self-else-is_err c =
    let tables_now : take c.self.inside.tables.len (c.append_words.new.tables ++ drop (length c.append_words.new.tables) c.self.inside.tables.items) ≡ c.append_words.new.tables =
    take_at c.append_words.new.tables _ c.self.inside.tables.len (c.append_words.auto.tables ∙ c.deref_mut-2.ensures.len) in
    subst (AreKept c.self.inside.names c.settle.new.texts) (sym tables_now) (done c).0

pub returns-clause-appended : goal.returns-clause-appended
returns-clause-appended c =
    let tables_now : take c.self.inside.tables.len (c.append_words.new.tables ++ drop (length c.append_words.new.tables) c.self.inside.tables.items) ≡ c.append_words.new.tables =
    take_at c.append_words.new.tables _ c.self.inside.tables.len (c.append_words.auto.tables ∙ c.deref_mut-2.ensures.len) in
    record {
      unchanged = tt;
      made = ap (named c.self.inside.index_names) (ap (database_of c.settle.new.texts) tables_now ∙ (done c.before.before).1) ∙ (λ i. with_rows (c.self.view_is i) c.args.table (c.batch.view_is i).rows);
    }

pub returns-clause-refuses : goal.returns-clause-refuses
returns-clause-refuses c =
    let seen_rows : rows_of c.batch.inside.texts c.batch.inside.columns.items c.batch.inside.rows c.batch.inside.words.items ≡ c.args.batch.rows = ap (λ b. b.rows) c.batch.view_is in
    let count = counted c.batch.inside.texts c.batch.inside.columns.items c.batch.inside.rows c.batch.inside.words.items c.args.batch.rows seen_rows in
    let whole : row_of c.batch.inside.texts c.batch.inside.columns.items c.batch.inside.row.items ≡ [] = ap (λ b. b.row) c.batch.view_is ∙ c.requires.whole in
    let all_texts : with_texts c.args.self.now.texts (texts_in c.args.batch.rows) ≡ with_texts c.self.inside.texts c.batch.inside.texts =
    (λ i. with_texts (sym c.self.view_is i).texts (texts_in (sym seen_rows i)))
    ∙ sym (batch_texts c.batch.inside.columns.items c.batch.inside.texts c.batch.inside.rows c.batch.inside.words.items c.batch.inside.row.items _ c.self.inside.texts c.batch.invariant whole) in
    let room : room_fault c.args.self.now c.args.table (length c.args.batch.rows) ≡ None = ap (room_fault c.args.self.now c.args.table) count ∙ c.in_ok-check_room.ensures in
    not_first (room_fault c.args.self.now c.args.table (length c.args.batch.rows)) (texts_fault (with_texts c.args.self.now.texts (texts_in c.args.batch.rows))) _ room
    (record { answered = ap texts_fault all_texts ∙ c.in_ok-settle.ensures.refuses.answered; refused = tt })

pub returns-in_err-settle-clause-limit : goal.returns-in_err-settle-clause-limit
returns-in_err-settle-clause-limit c =
    let count = counted c.batch.inside.texts c.batch.inside.columns.items c.batch.inside.rows c.batch.inside.words.items c.args.batch.rows (ap (λ b. b.rows) c.batch.view_is) in
    λ name value. no_limit (room_fault c.args.self.now c.args.table (length c.args.batch.rows)) name value (ap (room_fault c.args.self.now c.args.table) count ∙ c.in_ok-check_room.ensures)

pub returns-then-is_err-clause-limit : goal.returns-then-is_err-clause-limit
returns-then-is_err-clause-limit c =
    let count = counted c.batch.inside.texts c.batch.inside.columns.items c.batch.inside.rows c.batch.inside.words.items c.args.batch.rows (ap (λ b. b.rows) c.batch.view_is) in
    λ name value. no_limit (room_fault c.args.self.now c.args.table (length c.args.batch.rows)) name value (ap (room_fault c.args.self.now c.args.table) count ∙ c.in_ok-check_room.ensures)

pub returns-clause-limit : goal.returns-clause-limit
returns-clause-limit c =
    let count = counted c.batch.inside.texts c.batch.inside.columns.items c.batch.inside.rows c.batch.inside.words.items c.args.batch.rows (ap (λ b. b.rows) c.batch.view_is) in
    λ name value. no_limit (room_fault c.args.self.now c.args.table (length c.args.batch.rows)) name value (ap (room_fault c.args.self.now c.args.table) count ∙ c.in_ok-check_room.ensures)

pub settle-requires-clause-filled : goal.settle-requires-clause-filled
settle-requires-clause-filled c =
    ap length c.deref_mut.ensures.value ∙ c.batch.invariant.words_fill_rows ∙ ap (λ cs. c.batch.inside.rows * length cs) (sym c.deref.ensures.value)

pub settle-requires-clause-mean : goal.settle-requires-clause-mean
settle-requires-clause-mean c =
    subst (λ cs. MeanRows c.batch.inside.texts cs (cut_rows (length cs) c.batch.inside.rows c.deref_mut.result.now)) (sym c.deref.ensures.value)
    (subst (λ ws. MeanRows c.batch.inside.texts c.batch.inside.columns.items (cut_rows (length c.batch.inside.columns.items) c.batch.inside.rows ws)) (sym c.deref_mut.ensures.value) c.batch.invariant.rows_mean)

pub invariant_of-self : goal.invariant_of-self
invariant_of-self c = subst (λ t. AreKept c.self.inside.names t c.self.inside.tables.items) (sym c.in_err-settle.ensures.unchanged) c.self.invariant

pub returns-in_err-settle-clause-appended : goal.returns-in_err-settle-clause-appended
returns-in_err-settle-clause-appended c =
    unchanged_on (with_rows c.args.self.now c.args.table c.args.batch.rows) c.args.self.now _ c.from_residual-in_err-settle.result c.in_err-settle.field-0.0 c.from_residual-in_err-settle.ensures.1
    (ap (λ t. named c.self.inside.index_names (database_of t c.self.inside.tables.items)) c.in_err-settle.ensures.unchanged ∙ c.self.view_is)

pub append_words-requires-clause-there : goal.append_words-requires-clause-there
append_words-requires-clause-there c = omega (arith, is_kept _ _ _ _ c.self.view_is c.requires.there, ap length c.deref_mut-2.ensures.value)

pub returns-then-is_err-clause-refuses : goal.returns-then-is_err-clause-refuses
returns-then-is_err-clause-refuses c = out_of_memory _
