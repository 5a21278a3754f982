use Rattle.std.proofs.Common.{length, sym, ap, ◌∙◌}
use Rattle.btree_index.specs.Height.{height_of}
use Rattle.btree_index.proofs.Runs.{ordered_length}
use Rattle.btree_index.proofs.index.Index.height.Goals as goal

pub returns : goal.returns
returns c = c.self.invariant.as_stated ∙ ap height_of (sym (ordered_length c.self.inside.older.value c.self.inside.newer) ∙ ap length c.self.view_is)
