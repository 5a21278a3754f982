-- The entries of the rows that a range picks.
use Rattle.std.proofs.Common.{◌≡◌, ℕ, ℤ, ◌<◌, Bool, filter, length, get_or, FitsSigned, w64, sym, ap, subst, ◌∙◌}
use Rattle.sql_values.specs.Stored.{ValueRow}
use Rattle.query_block.specs.Truth.{value_at}
use Rattle.query_block.specs.Blocks.{RelationTree, kind_at}
use Rattle.query_block.specs.Picked.{IsOfKind, Picks}
use Rattle.query_block.proofs.OfKinds.{of-words}
use Rattle.btree_index.specs.Entries.{IndexEntry, HaveWords, is_within}
use Rattle.db_catalog.specs.Database.{DatabaseState, StandAsWords, row_at, table_at}
use Rattle.db_catalog.specs.Fits.{FitsTable}
use Rattle.db_catalog.specs.Indexes.{index_at, row_of_entry}
use Rattle.db_catalog.proofs.IndexEntries.{filter-same, indexed}
use Rattle.db_catalog.proofs.OfRelations.{relation_words, relation_values}

-- a row of a relation's table has values of the kinds of the relation's columns
pub is-of-kind : (database : DatabaseState) (relation : RelationTree) (column i : ℕ) → FitsTable database relation → StandAsWords database relation.table
    → i < length (table_at database relation.table).rows → IsOfKind database.texts (kind_at relation.columns column) (value_at (row_at (table_at database relation.table) i) column)
is-of-kind database relation column i fits stand there =
    let (words, stands) = stand i there in
    let row = row_at (table_at database relation.table) i in
    subst (λ r. IsOfKind database.texts (kind_at relation.columns column) (value_at r column)) (relation_values database relation fits words row stands)
    (of-words database.texts relation.columns words column (relation_words database relation fits words row stands))

-- a range that picks the rows that pass a test has exactly their entries
pub in-range : (database : DatabaseState) (relation : RelationTree) → FitsTable database relation → (column : ℕ) (from to : ℤ) (test : ValueRow → Bool)
    → Picks database.texts relation.columns column from to test → HaveWords (index_at database relation.table column) → StandAsWords database relation.table
    → filter (is_within from to) (index_at database relation.table column)
    ≡ filter (λ (entry : IndexEntry). test (row_of_entry database relation.table entry)) (index_at database relation.table column)
in-range database relation fits column from to test picks words stand =
    let index = index_at database relation.table column in
    filter-same (is_within from to) (λ (entry : IndexEntry). test (row_of_entry database relation.table entry)) index
    (λ k d below.
    let entry = get_or index k d in
    let is = indexed database relation.table column k d below in
    ap (λ (word : ℤ). is_within from to (word, entry.1)) (sym is.word)
    ∙ picks (row_of_entry database relation.table entry)
    (record { some = is.some; kind_is = is-of-kind database relation column entry.1 fits stand is.there; fits = subst (FitsSigned w64) (sym is.word) (words k d below) }))
