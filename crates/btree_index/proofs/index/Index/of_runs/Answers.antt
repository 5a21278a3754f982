use Rattle.std.proofs.Common.{length, ◌+◌, ap, subst, ◌∙◌}
use Rattle.btree_index.specs.Height.{height_of}
use Rattle.btree_index.specs.Entries.{HaveWords, IsInOrder}
use Rattle.btree_index.proofs.index.Index.of_runs.Goals as goal

pub invariant_of-result : goal.invariant_of-result
invariant_of-result c = record {
  older_order = subst IsInOrder c.deref.ensures c.entries-long.ensures.order;
  newer_order = c.entries-few.ensures.order;
  older_words = subst HaveWords c.deref.ensures c.entries-long.ensures.words;
  newer_words = c.entries-few.ensures.words;
  as_stated = c.height_for-height.ensures.height ∙ ap height_of
      (λ i. ap length (c.entries-long.ensures.entries ∙ c.deref.ensures) i + ap length c.entries-few.ensures.entries i);
}
