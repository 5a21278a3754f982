use Rattle.std.proofs.Common.{◌<◌, ◌∙◌, length, sym, ap, subst}
use Rattle.std.proofs.lemmas.List.Sorted.{length_permutation}
use Rattle.btree_index.specs.Height.{height_of}
use Rattle.db_catalog.specs.Database.{StandAsWords}
use Rattle.db_catalog.specs.Indexes.{column_entries, index_at}
use Rattle.btree_index.proofs.EntryOrder.{ordered_same}
use Rattle.db_catalog.proofs.Tables.{is_kept, index_seen, index_there, rows_stand}
use Rattle.db_catalog.proofs.database.Database.index.Goals as goal

pub returns-clause-entries : goal.returns-clause-entries
returns-clause-entries c =
    let there : c.args.table < length c.self.inside.tables.items = is_kept _ _ _ _ c.self.view_is (index_there c.args.self.now _ c.args.column c.requires) in
    c.index_of.ensures ∙ sym (index_seen _ c.self.inside.texts c.self.inside.tables.items c.args.table c.args.column c.index.result.now c.self.invariant there c.index.ensures)
    ∙ ap (λ db. index_at db c.args.table c.args.column) c.self.view_is

pub returns-clause-height : goal.returns-clause-height
returns-clause-height c =
    let entries = column_entries c.args.self.now c.args.table c.args.column in
    ap height_of (ap length (returns-clause-entries c) ∙ length_permutation entries (index_at c.args.self.now c.args.table c.args.column) (ordered_same entries))

pub returns-clause-rows : goal.returns-clause-rows
returns-clause-rows c =
    let there : c.args.table < length c.self.inside.tables.items = is_kept _ _ _ _ c.self.view_is (index_there c.args.self.now _ c.args.column c.requires) in
    subst (λ db. StandAsWords db c.args.table) c.self.view_is (rows_stand _ _ c.self.inside.tables.items _ c.self.invariant there)
