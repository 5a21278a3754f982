use Rattle.std.proofs.Common.{◌∙◌, sym, ap, option_map, nat_abs, SFits, w64, rules, Some}
use Rattle.std.proofs.lemmas.Int.{to_z-of_z}
use Rattle.db_catalog.specs.Database.{table_number}
use Rattle.db_catalog.proofs.Tables.{number_seen}
use Rattle.db_catalog.proofs.database.Database.table_of.Goals as goal

pub returns-in_err-number : goal.returns-in_err-number
returns-in_err-number c =
    c.from_residual.ensures ∙ ap (option_map nat_abs) (sym c.in_err-number.was ∙ c.code_of.ensures)
    ∙ number_seen _ c.self.inside.texts c.self.inside.tables.items c.args.name.now c.self.invariant.names_of_tables ∙ ap (λ db. table_number db c.args.name.now) c.self.view_is

pub returns : goal.returns
returns c =
    let fits : SFits w64 c.in_ok-number.number = search rules in
    ap (λ n. Some (nat_abs n)) (to_z-of_z w64 c.in_ok-number.number fits) ∙ ap (option_map nat_abs) (sym c.in_ok-number.was ∙ c.code_of.ensures)
    ∙ number_seen _ c.self.inside.texts c.self.inside.tables.items c.args.name.now c.self.invariant.names_of_tables ∙ ap (λ db. table_number db c.args.name.now) c.self.view_is
