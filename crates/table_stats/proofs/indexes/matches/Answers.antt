use Rattle.std.proofs.Common.{◌≡◌, ◌+◌, ◌++◌, cond, filter, length, Option, Some, None, sym, ap, ◌∙◌, SFits, w64, rules}
use Rattle.std.specs.Prelude.{Bool, Contains, ℕ}
use Rattle.std.proofs.lemmas.Int.{to_z-of_z}
use Rattle.std.proofs.lemmas.List.{length-append}
use Rattle.std.proofs.lemmas.List.Sorted.{length_permutation}
use Rattle.std.specs.List.Sorted.{IsPermutation}
use Rattle.std.proofs.lemmas.List.Elements.{All-contains}
use Rattle.query_block.specs.Blocks.{relation_tree}
use Rattle.plan_tree.specs.Work.{matches_in}
use Rattle.btree_index.specs.Entries.{is_within}
use Rattle.db_catalog.specs.Database.{table_at}
use Rattle.db_catalog.specs.Indexes.{index_at}
use Rattle.table_stats.proofs.Matches.{matches-are}
use Rattle.table_stats.proofs.indexes.matches.Goals as goal

pub entries_within-found-requires : goal.entries_within-found-requires
entries_within-found-requires c =
    All-contains (Contains (table_at c.args.db.now c.args.relation.now.table).indexed) c.args.relation.now.indexes c.args.column c.requires.stands.fits.indexes c.requires.indexed

pub returns-then-not-has_usable : goal.returns-then-not-has_usable
returns-then-not-has_usable c =
    let usable = rw (c.as_slice-filter.ensures, c.as_slice.ensures) at c.has_usable.ensures in
    let some : Option ℕ = Some (matches_in c.args.db.now.tables (relation_tree c.args.relation.now) c.args.column) in
    sym (ap (λ (b : Bool). cond b some None) (sym usable ∙ c.if-not-has_usable.true))

pub returns : goal.returns
returns c =
    let database = c.args.db.now in
    let own = relation_tree c.args.relation.now in
    let range = c.range_of-range.result in
    let from : SFits w64 range.from = search rules in
    let to : SFits w64 range.to = search rules in
    let found = c.entries_within-found.result in
    let entries : IsPermutation (filter (is_within range.from range.to) (index_at database own.table c.args.column)) (found.older.now ++ found.newer.now) = simp to_z-of_z at c.entries_within-found.ensures.entries in
    let counted : length found.older.now + length found.newer.now ≡ length (filter (is_within range.from range.to) (index_at database own.table c.args.column)) =
    sym (length-append found.older.now found.newer.now) ∙ length_permutation _ _ entries in
    let finds = rw (c.as_slice-filter.ensures, c.texts.ensures.texts) at (c.range_of-range.ensures c.requires.stands.well_formed.kinds own.columns) in
    let usable = rw (c.as_slice-filter.ensures, c.as_slice.ensures) at c.has_usable.ensures in
    let some : Option ℕ = Some (matches_in database.tables own c.args.column) in
    ap Some (counted
    ∙ matches-are database own c.requires.stands.fits c.args.column range (finds c.requires.stands.well_formed.is.filter) c.entries_within-found.ensures.words c.entries_within-found.ensures.rows)
    ∙ sym (ap (λ (b : Bool). cond b some None) (sym usable ∙ c.if-not-has_usable.false))
