use Rattle.std.proofs.Common.{◌≡◌, ◌∙◌, sym, ap, true, false, is_some, Some, None, if◌then◌else◌}
use Rattle.sql_values.specs.Dictionary.{has_text}
use Rattle.db_catalog.specs.declared.fault.DbFault.TheVariants.{Duplicate}
use Rattle.db_catalog.specs.Database.{table_at}
use Rattle.db_catalog.specs.Refused.{taken, indexed_fault}
use Rattle.db_catalog.proofs.Refusals.{not_first, refused_first, has_from_code}
use Rattle.db_catalog.proofs.database.Database.check_index.Goals as goal

pub returns-then-is_some : goal.returns-then-is_some
returns-then-is_some c =
    let names = c.args.self.now.index_names in
    let seen : names ≡ c.self.inside.index_names = ap (λ db. db.index_names) (sym c.self.view_is) in
    let has : has_text c.self.inside.index_names c.args.name.now ≡ true = sym (has_from_code c.self.inside.index_names c.args.name.now) ∙ ap is_some (sym c.code_of.ensures) ∙ sym c.is_some.ensures ∙ c.if-is_some.true in
    let is_taken : taken names c.args.name.now ≡ Some (Duplicate c.args.name.now) = ap (λ ns. taken ns c.args.name.now) seen ∙ ap (λ b. if b then Some (Duplicate c.args.name.now) else None) has in
    refused_first (taken names c.args.name.now) _ c.duplicate.result (λ other. is_taken ∙ ap Some (sym (c.duplicate.ensures other)))

pub returns : goal.returns
returns c =
    let names = c.args.self.now.index_names in
    let seen : names ≡ c.self.inside.index_names = ap (λ db. db.index_names) (sym c.self.view_is) in
    let has : has_text c.self.inside.index_names c.args.name.now ≡ false = sym (has_from_code c.self.inside.index_names c.args.name.now) ∙ ap is_some (sym c.code_of.ensures) ∙ sym c.is_some.ensures ∙ c.if-is_some.false in
    let is_free : taken names c.args.name.now ≡ None = ap (λ ns. taken ns c.args.name.now) seen ∙ ap (λ b. if b then Some (Duplicate c.args.name.now) else None) has in
    let table = table_at c.args.self.now c.args.table in
    not_first (taken names c.args.name.now) (indexed_fault table.columns table.indexed c.args.column) c.check_unindexed.result is_free
    (rw (sym c.columns.ensures.columns, sym c.indexes.ensures.indexed) c.check_unindexed.ensures)
