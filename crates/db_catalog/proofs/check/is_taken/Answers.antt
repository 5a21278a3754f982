use Rattle.std.proofs.Common.{◌≡◌, ◌∙◌, sym, ap, true}
use Rattle.std.proofs.lemmas.List.Folds.{list_any_at}
use Rattle.std.specs.Str.{bytes_eq}
use Rattle.sql_values.proofs.Dictionary.{list_any-map}
use Rattle.db_catalog.proofs.check.is_taken.Goals as goal

pub returns-then-eq : goal.returns-then-eq
returns-then-eq c =
    let same : bytes_eq c.args.name.now c.column-item.result.name ≡ true = ap (bytes_eq c.args.name.now) (sym c.bytes.ensures) ∙ sym c.eq.ensures ∙ c.if-eq.true in
    sym (list_any-map (λ column. column.name) (bytes_eq c.args.name.now) c.args.columns.now
    ∙ list_any_at (λ column. bytes_eq c.args.name.now column.name) c.args.columns.now c.loop-column.column-index c.column-item.result c.loop-column-test.true (ap (λ column. bytes_eq c.args.name.now column.name) (sym c.column-item.is) ∙ same))
