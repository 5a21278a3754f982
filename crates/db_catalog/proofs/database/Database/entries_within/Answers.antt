use Rattle.std.proofs.Common.{◌++◌, subst, filter, SFits, w64}
use Rattle.std.proofs.lemmas.Int.{to_z-of_z}
use Rattle.std.specs.List.Sorted.{IsPermutation}
use Rattle.btree_index.specs.Entries.{HaveWords, is_within}
use Rattle.db_catalog.proofs.database.Database.entries_within.Goals as goal

pub returns-clause-entries : goal.returns-clause-entries
returns-clause-entries c =
    let from_fits : SFits w64 c.args.from = c.ranges.from in
    let to_fits : SFits w64 c.args.to = c.ranges.to in
    let found = c.within.result.older.now ++ c.within.result.newer.now in
    let range : IsPermutation (filter (is_within c.args.from c.args.to) c.index.result.now) found = simp to_z-of_z at c.within.ensures.entries in
    subst (λ index. IsPermutation (filter (is_within c.args.from c.args.to) index) found) c.index.ensures.entries range

pub returns-clause-words : goal.returns-clause-words
returns-clause-words c = subst HaveWords c.index.ensures.entries c.within.ensures.words
