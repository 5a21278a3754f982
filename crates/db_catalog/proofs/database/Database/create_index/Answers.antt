use Rattle.std.proofs.Common.{List, ℕ, None, ◌≡◌, ◌<◌, ◌∙◌, ◌∷◌, ◌++◌, [], sym, ap, subst, length, map, take, drop, set, slice_get, false, arith, if◌then◌else◌}
use Rattle.std.specs.Prelude.{IsSomeAnd, nat_eq}
use Rattle.std.specs.List.{list_any}
use Rattle.std.proofs.lemmas.List.{length-append, take_at}
use Rattle.sql_values.specs.Dictionary.{has_text, with_text}
use Rattle.db_catalog.specs.Database.{table_at, more_indexed, with_index}
use Rattle.db_catalog.specs.Refused.{taken, index_fault, indexed_fault}
use Rattle.db_catalog.specs.Kept.{AreKept, HasColumn, IndexesColumn, stored_table}
use Rattle.db_catalog.proofs.Refusals.{handed_on, neither, not_taken, not_indexed, on_err, on_ok}
use Rattle.db_catalog.proofs.Tables.{database_of, is_kept, column_there, has_column}
use Rattle.db_catalog.proofs.Appended.{column_indexed}
use Rattle.db_catalog.proofs.database.Database.create_index.Goals as goal
use Rattle.db_catalog.proofs.database.Database.create_index.Goals.{After-cut}

pub index_column-requires-clause-column : goal.index_column-requires-clause-column
index_column-requires-clause-column c =
    let there : c.args.table < length c.self.inside.tables.items = is_kept _ _ _ _ c.self.view_is (column_there c.args.self.now _ c.args.column c.requires) in
    let exists : c.args.column < length (table_at (database_of c.self.inside.texts c.self.inside.tables.items) c.args.table).columns =
    omega (arith, c.requires, ap (λ db. length (table_at db c.args.table).columns) c.self.view_is) in
    subst (λ ts. IsSomeAnd (slice_get ts c.args.table) (HasColumn c.args.column)) (sym c.deref_mut.ensures.value)
    (has_column c.self.inside.names c.self.inside.texts c.self.inside.tables.items c.args.table c.args.column c.self.invariant there exists)

-- what is left of the tables, and what is seen of them
done : (c : goal.Else-is_err) → AreKept c.self.inside.names c.self.inside.texts c.index_column.new.tables
    × (map (stored_table c.self.inside.texts) c.index_column.new.tables
    ≡ set (map (stored_table c.self.inside.texts) c.self.inside.tables.items) c.args.table (more_indexed (table_at (database_of c.self.inside.texts c.self.inside.tables.items) c.args.table) c.args.column))
done c =
    let there : c.args.table < length c.self.inside.tables.items = is_kept _ _ _ _ c.self.view_is (column_there c.args.self.now _ c.args.column c.requires) in
    let exists : c.args.column < length (table_at (database_of c.self.inside.texts c.self.inside.tables.items) c.args.table).columns =
    omega (arith, c.requires, ap (λ db. length (table_at db c.args.table).columns) c.self.view_is) in
    let table = table_at c.args.self.now c.args.table in
    let due = neither (taken c.args.self.now.index_names c.args.name.now) (indexed_fault table.columns table.indexed c.args.column) c.in_ok-check_index.ensures.answered in
    let free : list_any (nat_eq c.args.column) (table_at (database_of c.self.inside.texts c.self.inside.tables.items) c.args.table).indexed ≡ false =
    ap (λ db. list_any (nat_eq c.args.column) (table_at db c.args.table).indexed) c.self.view_is ∙ not_indexed table.columns table.indexed c.args.column due.1 in
    let made : IndexesColumn c.args.table c.args.column c.self.inside.tables.items c.index_column.new.tables =
    subst (λ ts. IndexesColumn c.args.table c.args.column ts c.index_column.new.tables) c.deref_mut.ensures.value
    (on_ok c.index_column.result (sym c.is_err.ensures.value ∙ c.if-is_err.false) c.index_column.ensures.indexed) in
    column_indexed c.self.inside.names c.self.inside.texts c.self.inside.tables.items c.index_column.new.tables c.args.table c.args.column c.self.invariant there exists free made

pub invariant_of-self-else-is_err : goal.invariant_of-self-else-is_err
invariant_of-self-else-is_err c =
    let tables_now : take c.self.inside.tables.len (c.index_column.new.tables ++ drop (length c.index_column.new.tables) c.self.inside.tables.items) ≡ c.index_column.new.tables =
    take_at c.index_column.new.tables _ c.self.inside.tables.len (c.index_column.auto.tables ∙ c.deref_mut.ensures.len) in
    subst (AreKept c.self.inside.names c.self.inside.texts) (sym tables_now) (done c).0

pub returns-clause-created : goal.returns-clause-created
returns-clause-created c =
    let tables_now : take c.self.inside.tables.len (c.index_column.new.tables ++ drop (length c.index_column.new.tables) c.self.inside.tables.items) ≡ c.index_column.new.tables =
    take_at c.index_column.new.tables _ c.self.inside.tables.len (c.index_column.auto.tables ∙ c.deref_mut.ensures.len) in
    let table = table_at c.args.self.now c.args.table in
    let due = neither (taken c.args.self.now.index_names c.args.name.now) (indexed_fault table.columns table.indexed c.args.column) c.in_ok-check_index.ensures.answered in
    let free : has_text c.self.inside.index_names c.args.name.now ≡ false = ap (λ db. has_text db.index_names c.args.name.now) c.self.view_is ∙ not_taken c.args.self.now.index_names c.args.name.now due.0 in
    let names : c.add.new.self ≡ c.self.inside.index_names ++ c.args.name.now ∷ [] =
    c.in_ok-add.ensures.texts ∙ ap (λ b. if b then c.self.inside.index_names else c.self.inside.index_names ++ c.args.name.now ∷ []) free in
    let made = (λ i. record { tables = (ap (map (stored_table c.self.inside.texts)) tables_now ∙ (done c).1) i; texts = c.self.inside.texts; index_names = names i })
    ∙ ap (λ db. with_index db c.args.name.now c.args.table c.args.column) c.self.view_is in
    record { made = made; unchanged = tt }

-- a name that isn't among these comes behind them
more_names : (before after : List (List ℕ)) (name : List ℕ) → taken before name ≡ None → after ≡ with_text before name → after ≡ before ++ name ∷ []
more_names before after name free is = is ∙ ap (λ b. if b then before else before ++ name ∷ []) (not_taken before name free)

pub prove-unreachable-requires : goal.prove-unreachable-requires
prove-unreachable-requires c =
    let table = table_at c.args.self.now c.args.table in
    let due = neither (taken c.args.self.now.index_names c.args.name.now) (indexed_fault table.columns table.indexed c.args.column) c.in_ok-check_index.ensures.answered in
    let names = more_names c.self.inside.index_names c.add.new.self c.args.name.now (ap (λ db. taken db.index_names c.args.name.now) c.self.view_is ∙ due.0) c.in_ok-add.ensures.texts in
    omega (arith, ap length names, length-append c.self.inside.index_names (c.args.name.now ∷ []), c.len-before.ensures.count, c.len.ensures.count, c.if-prove.true)

-- no table is another where memory runs out
same_tables : (c : After-cut) → take c.self.inside.tables.len (c.index_column.new.tables ++ drop (length c.index_column.new.tables) c.self.inside.tables.items) ≡ c.self.inside.tables.items
same_tables c =
    take_at c.index_column.new.tables _ c.self.inside.tables.len (c.index_column.auto.tables ∙ c.deref_mut.ensures.len)
    ∙ on_err c.index_column.result (sym c.is_err.ensures.value ∙ c.if-is_err.true) c.index_column.ensures.unchanged ∙ c.deref_mut.ensures.value

pub invariant_of-self-then-is_err : goal.invariant_of-self-then-is_err
invariant_of-self-then-is_err c = subst (AreKept c.self.inside.names c.self.inside.texts) (sym (same_tables c)) c.self.invariant

pub returns-then-is_err-clause-created : goal.returns-then-is_err-clause-created
returns-then-is_err-clause-created c =
    let table = table_at c.args.self.now c.args.table in
    let due = neither (taken c.args.self.now.index_names c.args.name.now) (indexed_fault table.columns table.indexed c.args.column) c.in_ok-check_index.ensures.answered in
    let names = more_names c.self.inside.index_names c.add.new.self c.args.name.now (ap (λ db. taken db.index_names c.args.name.now) c.self.view_is ∙ due.0) c.in_ok-add.ensures.texts in
    let same_names : c.cut.new.self ≡ c.self.inside.index_names =
    c.cut.ensures ∙ ap (take c.len-before.result) names ∙ take_at c.self.inside.index_names (c.args.name.now ∷ []) c.len-before.result (sym c.len-before.ensures.count) in
    record {
      made = tt;
      unchanged = (λ i. record { tables = map (stored_table c.self.inside.texts) (same_tables c i); texts = c.self.inside.texts; index_names = same_names i }) ∙ c.self.view_is;
    }

pub returns-in_err-check_index-clause-refuses : goal.returns-in_err-check_index-clause-refuses
returns-in_err-check_index-clause-refuses c =
    handed_on (index_fault c.args.self.now c.args.name.now c.args.table c.args.column) c.from_residual.result c.in_err-check_index.field-0.0 c.from_residual.ensures.1 c.in_err-check_index.ensures
