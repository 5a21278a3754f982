use Rattle.std.proofs.Common.{FitsSigned, subst, w64}
use Rattle.btree_index.specs.Entries.{HaveWords, IndexEntry}
use Rattle.btree_index.proofs.Runs.{words_ordered}
use Rattle.btree_index.proofs.index.Index.know_words.Goals as goal

pub returns : goal.returns
returns c =
    subst HaveWords c.self.view_is (words_ordered (λ (e : IndexEntry). FitsSigned w64 e.0) c.self.inside.older.value c.self.inside.newer c.self.invariant.older_words c.self.invariant.newer_words)
