use Rattle.std.proofs.Common.{◌≡◌, ◌∙◌, ◌+◌, sym, ap, length, map, [], true, false, is_some, Some, None, Err, arith, if◌then◌else◌}
use Rattle.std.specs.Option.{option_or}
use Rattle.std.proofs.lemmas.List.{length-map}
use Rattle.sql_values.specs.declared.limit.LimitName.TheVariants as limit
use Rattle.sql_values.specs.Limits.{max_tables, max_columns}
use Rattle.sql_values.specs.Dictionary.{has_text}
use Rattle.db_catalog.specs.declared.fault.DbFault.TheVariants.{Duplicate}
use Rattle.db_catalog.specs.Refused.{past, taken, columns_fault}
use Rattle.db_catalog.proofs.Refusals.{due_next, due_first, name_first, has_from_code}
use Rattle.db_catalog.proofs.Tables.{names_seen}
use Rattle.db_catalog.proofs.database.Database.check_creation.Goals as goal

pub returns-then-is_some : goal.returns-then-is_some
returns-then-is_some c =
    let names = map (λ table. table.name) c.args.self.now.tables in
    let seen : names ≡ c.self.inside.names = ap (λ db. map (λ table. table.name) db.tables) (sym c.self.view_is) ∙ names_seen c.self.inside.texts c.self.inside.tables.items ∙ sym c.self.invariant.names_of_tables in
    let count : length c.args.self.now.tables + 1 ≡ c.len.result + 1 = omega (arith, ap length seen, length-map c.args.self.now.tables (λ table. table.name), c.len.ensures.count) in
    let has : has_text c.self.inside.names c.args.name.now ≡ true = sym (has_from_code c.self.inside.names c.args.name.now) ∙ ap is_some (sym c.code_of.ensures) ∙ sym c.is_some.ensures ∙ c.if-is_some.true in
    let is_taken : taken names c.args.name.now ≡ Some (Duplicate c.args.name.now) = ap (λ ns. taken ns c.args.name.now) seen ∙ ap (λ b. if b then Some (Duplicate c.args.name.now) else None) has in
    let rest = option_or (past limit.Columns max_columns (length c.args.columns.now)) (columns_fault [] c.args.columns.now) in
    due_next {T = Unit {0}} (past limit.Tables max_tables (length c.args.self.now.tables + 1)) (option_or (taken names c.args.name.now) rest) (Err c.duplicate.result)
    (ap (past limit.Tables max_tables) count ∙ c.in_ok-check_limit.ensures) (name_first (taken names c.args.name.now) rest c.args.name.now c.duplicate.result is_taken c.duplicate.ensures)

pub returns-in_err-check_limit-2 : goal.returns-in_err-check_limit-2
returns-in_err-check_limit-2 c =
    let names = map (λ table. table.name) c.args.self.now.tables in
    let seen : names ≡ c.self.inside.names = ap (λ db. map (λ table. table.name) db.tables) (sym c.self.view_is) ∙ names_seen c.self.inside.texts c.self.inside.tables.items ∙ sym c.self.invariant.names_of_tables in
    let count : length c.args.self.now.tables + 1 ≡ c.len.result + 1 = omega (arith, ap length seen, length-map c.args.self.now.tables (λ table. table.name), c.len.ensures.count) in
    let has : has_text c.self.inside.names c.args.name.now ≡ false = sym (has_from_code c.self.inside.names c.args.name.now) ∙ ap is_some (sym c.code_of.ensures) ∙ sym c.is_some.ensures ∙ c.if-is_some.false in
    let is_free : taken names c.args.name.now ≡ None = ap (λ ns. taken ns c.args.name.now) seen ∙ ap (λ b. if b then Some (Duplicate c.args.name.now) else None) has in
    due_next (past limit.Tables max_tables (length c.args.self.now.tables + 1)) _ _ (ap (past limit.Tables max_tables) count ∙ c.in_ok-check_limit.ensures)
    (due_next (taken names c.args.name.now) _ _ is_free
    (due_first (past limit.Columns max_columns (length c.args.columns.now)) (columns_fault [] c.args.columns.now) c.from_residual-in_err-check_limit-2.result c.in_err-check_limit-2.field-0.0 c.from_residual-in_err-check_limit-2.ensures.1 c.in_err-check_limit-2.ensures))

pub returns : goal.returns
returns c =
    let names = map (λ table. table.name) c.args.self.now.tables in
    let seen : names ≡ c.self.inside.names = ap (λ db. map (λ table. table.name) db.tables) (sym c.self.view_is) ∙ names_seen c.self.inside.texts c.self.inside.tables.items ∙ sym c.self.invariant.names_of_tables in
    let count : length c.args.self.now.tables + 1 ≡ c.len.result + 1 = omega (arith, ap length seen, length-map c.args.self.now.tables (λ table. table.name), c.len.ensures.count) in
    let has : has_text c.self.inside.names c.args.name.now ≡ false = sym (has_from_code c.self.inside.names c.args.name.now) ∙ ap is_some (sym c.code_of.ensures) ∙ sym c.is_some.ensures ∙ c.if-is_some.false in
    let is_free : taken names c.args.name.now ≡ None = ap (λ ns. taken ns c.args.name.now) seen ∙ ap (λ b. if b then Some (Duplicate c.args.name.now) else None) has in
    due_next (past limit.Tables max_tables (length c.args.self.now.tables + 1)) _ _ (ap (past limit.Tables max_tables) count ∙ c.in_ok-check_limit.ensures)
    (due_next (taken names c.args.name.now) _ _ is_free
    (due_next (past limit.Columns max_columns (length c.args.columns.now)) (columns_fault [] c.args.columns.now) c.check_columns.result c.in_ok-check_limit-2.ensures c.check_columns.ensures))
