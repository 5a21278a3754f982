use Rattle.std.proofs.Common.{◌≡◌, ◌++◌, ap, arith, get_or, length, ◌∙◌}
use Rattle.btree_index.specs.Entries.{ordered}
use Rattle.btree_index.proofs.Runs.{ordered_length}
use Rattle.btree_index.proofs.index.Index.row_at.Goals as goal

pub entry_at-older-requires-clause-there : goal.entry_at-older-requires-clause-there
entry_at-older-requires-clause-there c =
    omega (arith, c.requires, ordered_length c.self.inside.older.value c.self.inside.newer, ap length c.self.view_is, ap length (c.entries.ensures.entries ∙ c.deref.ensures), ap length c.entries-2.ensures.entries)

pub returns : goal.returns
returns c =
    let same : ordered (c.entries.result.now ++ c.entries-2.result.now) ≡ c.args.self.now =
    (λ i. ordered ((c.entries.ensures.entries ∙ c.deref.ensures) i ++ c.entries-2.ensures.entries i)) ∙ c.self.view_is in
    λ d. ap (λ e. e.1) (c.entry_at-older.ensures d ∙ ap (λ xs. get_or xs c.args.place d) same)
