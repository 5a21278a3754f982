use Rattle.std.proofs.Common.{◌+◌, ◌++◌, ◌<◌, filter, length, SFits, w64, ◌∙◌, rules}
use Rattle.std.specs.Prelude.{Bool, Contains}
use Rattle.std.specs.List.Sorted.{IsPermutation}
use Rattle.std.proofs.lemmas.Int.{to_z-of_z}
use Rattle.std.proofs.lemmas.List.Elements.{All-contains, All-filter}
use Rattle.sql_values.specs.Stored.{ValueRow}
use Rattle.btree_index.specs.Entries.{IndexEntry, is_within}
use Rattle.db_catalog.specs.Database.{table_at}
use Rattle.db_catalog.specs.Indexes.{index_at, row_of_entry}
use Rattle.db_catalog.proofs.OfIndexes.{index_at-below}
use Rattle.table_stats.specs.Ready.{is_kept, own}
use Rattle.table_stats.proofs.Counted.{all-left, all-right, counted-both, found-all}
use Rattle.table_stats.proofs.kept.kept_within.Goals as goal

pub entries_within-found-requires : goal.entries_within-found-requires
entries_within-found-requires c =
    let relation = own c.args.filter.now in
    All-contains (Contains (table_at c.args.db.now relation.table).indexed) relation.indexes c.args.column c.requires.over.fits.indexes c.requires.indexed

pub kept_among-requires-clause-there : goal.kept_among-requires-clause-there
kept_among-requires-clause-there c =
    let relation = own c.args.filter.now in
    let table = table_at c.args.db.now relation.table in
    let range = c.range_of-range.result in
    let from : SFits w64 range.from = search rules in
    let to : SFits w64 range.to = search rules in
    let found = c.entries_within-found.result in
    let IsThere : IndexEntry → Type 0 = λ entry. entry.1 < length table.rows in
    let entries : IsPermutation (filter (is_within range.from range.to) (index_at c.args.db.now relation.table c.args.column)) (found.older.now ++ found.newer.now) = simp to_z-of_z at c.entries_within-found.ensures.entries in
    all-left IsThere _ found.older.now found.newer.now entries
    (All-filter (is_within range.from range.to) IsThere (index_at c.args.db.now relation.table c.args.column) (index_at-below c.args.db.now relation.table c.args.column))

pub kept_among-requires-2-clause-there : goal.kept_among-requires-2-clause-there
kept_among-requires-2-clause-there c =
    let relation = own c.args.filter.now in
    let table = table_at c.args.db.now relation.table in
    let range = c.range_of-range.result in
    let from : SFits w64 range.from = search rules in
    let to : SFits w64 range.to = search rules in
    let found = c.entries_within-found.result in
    let IsThere : IndexEntry → Type 0 = λ entry. entry.1 < length table.rows in
    let entries : IsPermutation (filter (is_within range.from range.to) (index_at c.args.db.now relation.table c.args.column)) (found.older.now ++ found.newer.now) = simp to_z-of_z at c.entries_within-found.ensures.entries in
    all-right IsThere _ found.older.now found.newer.now entries
    (All-filter (is_within range.from range.to) IsThere (index_at c.args.db.now relation.table c.args.column) (index_at-below c.args.db.now relation.table c.args.column))

pub returns : goal.returns
returns c =
    let database = c.args.db.now in
    let relation = own c.args.filter.now in
    let found = c.entries_within-found.result in
    let row = row_of_entry database relation.table in
    let range = c.range_of-range.result in
    let from : SFits w64 range.from = search rules in
    let to : SFits w64 range.to = search rules in
    let entries : IsPermutation (filter (is_within range.from range.to) (index_at database relation.table c.args.column)) (found.older.now ++ found.newer.now) = simp to_z-of_z at c.entries_within-found.ensures.entries in
    let test : ValueRow → Bool = is_kept c.args.filter.now in
    let finds = rw (c.as_slice.ensures, c.requires.over.texts) at (c.range_of-range.ensures c.requires.over.ready.relation.kinds relation.columns) in
    (λ i. c.kept_among.ensures.count i + c.kept_among-2.ensures.count i)
    ∙ counted-both test row _ found.older.now found.newer.now entries
    ∙ found-all database relation c.requires.over.fits c.args.column range c.requires.usable (finds c.requires.over.ready.relation.is.filter)
    c.entries_within-found.ensures.words c.entries_within-found.ensures.rows
