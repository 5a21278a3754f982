use Rattle.std.proofs.Common.{length, ◌+◌, sym, ap, ◌∙◌}
use Rattle.btree_index.proofs.Runs.{ordered_length}
use Rattle.btree_index.proofs.index.Index.entries.Goals as goal

pub returns : goal.returns
returns c =
    (λ i. (c.len.ensures.count ∙ ap length c.deref.ensures) i + c.len-2.ensures.count i)
    ∙ sym (ordered_length c.self.inside.older.value c.self.inside.newer) ∙ ap length c.self.view_is
