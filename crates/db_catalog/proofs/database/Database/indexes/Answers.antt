use Rattle.std.proofs.Common.{All, ◌≡◌, ◌<◌, ◌∙◌, length, sym, ap, subst}
use Rattle.std.specs.Prelude.{nat_eq}
use Rattle.std.specs.List.{IsDistinct}
use Rattle.db_catalog.specs.Database.{table_at}
use Rattle.db_catalog.specs.Kept.{stored_table, IsKept}
use Rattle.db_catalog.proofs.Tables.{is_kept, kept_at, table_at-database_of}
use Rattle.db_catalog.proofs.database.Database.indexes.Goals as goal

-- the table that is kept, and what is seen of it
here : (c : goal.After-columns) → IsKept c.self.inside.texts c.index.result.now × (table_at c.args.self.now c.args.table ≡ stored_table c.self.inside.texts c.index.result.now)
here c =
    let there : c.args.table < length c.self.inside.tables.items = is_kept _ _ _ _ c.self.view_is c.requires in (
      kept_at _ _ c.self.inside.tables.items _ c.index.result.now c.self.invariant there c.index.ensures,
      ap (λ db. table_at db c.args.table) (sym c.self.view_is) ∙ table_at-database_of c.self.inside.texts c.self.inside.tables.items _ c.index.result.now there c.index.ensures,
    )

pub returns-clause-indexed : goal.returns-clause-indexed
returns-clause-indexed c = c.columns.ensures ∙ sym (ap (λ t. t.indexed) (here c).1)

pub returns-clause-there : goal.returns-clause-there
returns-clause-there c =
    let kept = (here c).0 in
    let count = kept.width ∙ sym (ap (λ t. length t.columns) (here c).1) in
    subst (All (λ column. column < length (table_at c.args.self.now c.args.table).columns)) (sym c.columns.ensures)
    (subst (λ n. All (λ column. column < n) c.index.result.now.indexes.columns) count kept.indexes.there)

pub returns-clause-different : goal.returns-clause-different
returns-clause-different c = subst (IsDistinct nat_eq) (sym c.columns.ensures) (here c).0.indexed_once
