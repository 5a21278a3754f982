use Rattle.std.proofs.Common.{◌≡◌, ◌∙◌, ◌+◌, ◌++◌, ◌∷◌, ◌≤◌, [], sym, ap, subst, length, map, false, arith}
use Rattle.std.proofs.lemmas.List.{length-map}
use Rattle.sql_values.specs.declared.limit.LimitName.TheVariants as limit
use Rattle.sql_values.specs.Limits.{max_tables, max_columns}
use Rattle.sql_values.specs.Dictionary.{has_text, with_text}
use Rattle.db_catalog.specs.Refused.{creation_fault, past, taken, columns_fault}
use Rattle.db_catalog.specs.Database.{new_table, with_table}
use Rattle.db_catalog.specs.Kept.{AreKept, stored_table}
use Rattle.db_catalog.proofs.Refusals.{due_handed_on, due_limit, neither, no_limit, not_taken, within}
use Rattle.db_catalog.proofs.Tables.{names_seen}
use Rattle.db_catalog.proofs.Appended.{table_appended, table_seen}
use Rattle.db_catalog.proofs.database.Database.create_table.Goals as goal

pub invariant_of-self-2 : goal.invariant_of-self-2
invariant_of-self-2 c =
    let names = map (λ table. table.name) c.args.self.now.tables in
    let seen : names ≡ c.self.inside.names = ap (λ db. map (λ table. table.name) db.tables) (sym c.self.view_is) ∙ names_seen c.self.inside.texts c.self.inside.tables.items ∙ sym c.self.invariant.names_of_tables in
    let tables = neither (past limit.Tables max_tables (length c.args.self.now.tables + 1)) _ c.in_ok-check_creation.ensures in
    let name = neither (taken names c.args.name.now) _ tables.1 in
    let columns = neither (past limit.Columns max_columns (length c.args.columns.now)) (columns_fault [] c.args.columns.now) name.1 in
    let free : has_text c.self.inside.names c.args.name.now ≡ false = subst (λ ns. has_text ns c.args.name.now ≡ false) seen (not_taken names c.args.name.now name.0) in
    let few : length c.self.inside.tables.items + 1 ≤ max_tables =
    omega (arith, within limit.Tables max_tables (length c.args.self.now.tables + 1) tables.0, ap (λ db. length db.tables) c.self.view_is, length-map c.self.inside.tables.items (stored_table c.self.inside.texts)) in
    let put : c.push_within.new.items.items ≡ c.self.inside.tables.items ++ c.in_ok-table.table ∷ [] = c.push_within.ensures.items ∙ ap (λ l. l ++ c.in_ok-table.table ∷ []) c.in_ok-reserve.ensures.items in
    subst (λ ns. AreKept ns c.self.inside.texts c.push_within.new.items.items) (sym c.in_ok-add.ensures.texts)
    (subst (AreKept (with_text c.self.inside.names c.args.name.now) c.self.inside.texts) (sym put)
    (table_appended c.self.inside.names c.self.inside.texts c.self.inside.tables.items c.in_ok-table.table c.args.name.now c.args.columns.now c.self.invariant free few c.requires.some
    (within limit.Columns max_columns (length c.args.columns.now) columns.0) c.in_ok-table.ensures.name c.in_ok-table.ensures.columns c.in_ok-table.ensures.width c.in_ok-table.ensures.rows c.in_ok-table.ensures.indexes))

pub returns-clause-created : goal.returns-clause-created
returns-clause-created c =
    let put : c.push_within.new.items.items ≡ c.self.inside.tables.items ++ c.in_ok-table.table ∷ [] = c.push_within.ensures.items ∙ ap (λ l. l ++ c.in_ok-table.table ∷ []) c.in_ok-reserve.ensures.items in
    let seen = ap (map (stored_table c.self.inside.texts)) put
    ∙ table_seen c.self.inside.texts c.self.inside.tables.items c.in_ok-table.table c.args.name.now c.args.columns.now c.in_ok-table.ensures.name c.in_ok-table.ensures.columns c.in_ok-table.ensures.rows c.in_ok-table.ensures.indexes in
    record {
      unchanged = tt;
      made = (λ i. record { tables = seen i; texts = c.self.inside.texts; index_names = c.self.inside.index_names }) ∙ ap (λ db. with_table db (new_table c.args.name.now c.args.columns.now)) c.self.view_is;
    }

pub returns-in_err-check_creation-clause-refuses : goal.returns-in_err-check_creation-clause-refuses
returns-in_err-check_creation-clause-refuses c =
    due_handed_on (creation_fault c.args.self.now c.args.name.now c.args.columns.now) c.from_residual.result c.in_err-check_creation.field-0.0 c.from_residual.ensures.1 c.in_err-check_creation.ensures

pub returns-in_err-check_creation-clause-limit : goal.returns-in_err-check_creation-clause-limit
returns-in_err-check_creation-clause-limit c =
    due_limit (creation_fault c.args.self.now c.args.name.now c.args.columns.now) c.from_residual.result c.in_err-check_creation.field-0.0 c.from_residual.ensures.1 c.in_err-check_creation.ensures

pub returns-in_err-table-clause-limit : goal.returns-in_err-table-clause-limit
returns-in_err-table-clause-limit c = λ name value. no_limit (creation_fault c.args.self.now c.args.name.now c.args.columns.now) name value c.in_ok-check_creation.ensures

pub returns-in_err-reserve-clause-limit : goal.returns-in_err-reserve-clause-limit
returns-in_err-reserve-clause-limit c = λ name value. no_limit (creation_fault c.args.self.now c.args.name.now c.args.columns.now) name value c.in_ok-check_creation.ensures

pub returns-in_err-add-clause-limit : goal.returns-in_err-add-clause-limit
returns-in_err-add-clause-limit c = λ name value. no_limit (creation_fault c.args.self.now c.args.name.now c.args.columns.now) name value c.in_ok-check_creation.ensures

pub returns-clause-limit : goal.returns-clause-limit
returns-clause-limit c = λ name value. no_limit (creation_fault c.args.self.now c.args.name.now c.args.columns.now) name value c.in_ok-check_creation.ensures
