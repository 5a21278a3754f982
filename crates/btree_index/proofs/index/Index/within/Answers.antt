use Rattle.std.proofs.Common.{◌≡◌, ◌++◌, FitsSigned, List, SFits, ap, filter, subst, w64, ◌∙◌}
use Rattle.std.proofs.lemmas.Int.{to_z-of_z}
use Rattle.std.specs.List.Sorted.{IsPermutation}
use Rattle.btree_index.specs.Entries.{HaveWords, IndexEntry, is_within}
use Rattle.btree_index.proofs.Runs.{found_both, words_ordered}
use Rattle.btree_index.proofs.index.Index.within.Goals as goal

pub returns-clause-entries : goal.returns-clause-entries
returns-clause-entries c =
    let from_fits : SFits w64 c.args.from = c.ranges.from in
    let to_fits : SFits w64 c.args.to = c.ranges.to in
    let older = c.self.inside.older.value in
    let newer = c.self.inside.newer in
    let a : c.within-older.result.now ≡ filter (is_within c.args.from c.args.to) c.deref.result.now = simp to_z-of_z at c.within-older.ensures in
    let b : c.within-newer.result.now ≡ filter (is_within c.args.from c.args.to) newer = simp to_z-of_z at c.within-newer.ensures in
    subst (λ (xs : List IndexEntry). IsPermutation (filter (is_within c.args.from c.args.to) xs) (c.within-older.result.now ++ c.within-newer.result.now)) c.self.view_is
    (found_both older newer c.within-older.result.now c.within-newer.result.now c.args.from c.args.to (a ∙ ap (filter (is_within c.args.from c.args.to)) c.deref.ensures) b)

pub returns-clause-words : goal.returns-clause-words
returns-clause-words c =
    subst HaveWords c.self.view_is (words_ordered (λ (e : IndexEntry). FitsSigned w64 e.0) c.self.inside.older.value c.self.inside.newer c.self.invariant.older_words c.self.invariant.newer_words)
