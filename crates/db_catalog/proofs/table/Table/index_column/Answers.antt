use Rattle.std.proofs.Common.{◌≡◌, ◌∷◌, ◌++◌, ◌∙◌, [], ap, subst, IsPermutation}
use Rattle.db_catalog.specs.Indexes.{kept_index, word_entries}
use Rattle.btree_index.proofs.EntryOrder.{ordered_alone}
use Rattle.db_catalog.proofs.Tables.{IfOk-map}
use Rattle.db_catalog.proofs.table.Table.index_column.Goals as goal

pub returns-clause-indexed : goal.returns-clause-indexed
returns-clause-indexed c =
    let old = c.args.self.now in
    let index : c.in_ok-index.index ≡ kept_index old.heap.rows c.args.column =
    ordered_alone (word_entries c.args.column 0 old.heap.rows) c.in_ok-index.index (subst (λ l. IsPermutation l c.in_ok-index.index) c.in_ok-entries.ensures c.in_ok-index.ensures.same) c.in_ok-index.ensures.order in
    IfOk-map c.add.result (λ _ added. ap (λ x. record old { indexes = x }) added ∙ ap (λ l. record old { indexes = record { columns = old.indexes.columns ++ c.args.column ∷ []; entries = old.indexes.entries ++ l ∷ [] } }) index) c.add.ensures.made
