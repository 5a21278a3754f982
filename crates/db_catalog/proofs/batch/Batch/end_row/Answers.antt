use Rattle.std.proofs.Common.{◌≡◌, ◌∙◌, ◌+◌, ◌++◌, length, sym, ap, subst, vec_capacity}
use Rattle.sql_values.specs.Stored.{row_of}
use Rattle.db_catalog.specs.Batch.{with_row_ended}
use Rattle.db_catalog.specs.Kept.{IsBatch}
use Rattle.db_catalog.proofs.BatchParts.{ended, batch_of}
use Rattle.db_catalog.proofs.batch.Batch.end_row.Goals as goal

both : (c : goal.After-self-1) → IsBatch c.self.inside.columns.items c.self.inside.texts (c.self.inside.rows + 1) c.extend_from_slice.new.self.items c.clear.new.self.items (vec_capacity c.self.inside.row)
    × (batch_of c.self.inside.columns.items c.self.inside.texts (c.self.inside.rows + 1) c.extend_from_slice.new.self.items c.clear.new.self.items ≡ with_row_ended (batch_of c.self.inside.columns.items c.self.inside.texts c.self.inside.rows c.self.inside.words.items c.self.inside.row.items))
both c =
    let full : length (row_of c.self.inside.texts c.self.inside.columns.items c.self.inside.row.items) ≡ length c.self.inside.columns.items = subst (λ b. length b.row ≡ length b.columns) (sym c.self.view_is) c.requires in
    let joined : c.extend_from_slice.new.self.items ≡ c.self.inside.words.items ++ c.self.inside.row.items = c.in_ok-extend_from_slice.ensures.items ∙ ap (λ r. c.self.inside.words.items ++ r) c.deref.ensures.value in
    rw (joined, c.clear.ensures.items) (ended _ _ _ _ _ _ c.self.invariant full)

pub invariant_of-self-2 : goal.invariant_of-self-2
invariant_of-self-2 c = rw c.clear.ensures.capacity (both c).0

pub returns : goal.returns
returns c = record { made = (both c).1 ∙ ap with_row_ended c.self.view_is; unchanged = tt }
