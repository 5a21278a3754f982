use Rattle.std.proofs.Common.{◌∙◌, sym, ap, subst, refl, vec_capacity}
use Rattle.sql_values.specs.declared.value.Value.TheVariants as value
use Rattle.sql_values.specs.Words.{null_word}
use Rattle.sql_values.proofs.Dictionary.{Begins_itself}
use Rattle.sql_values.proofs.Stored.{IsWord-null, NULL_is_null}
use Rattle.db_catalog.specs.Batch.{FitsNext, with_value}
use Rattle.db_catalog.proofs.BatchParts.{OneMore, next_within, put_value, batch_of-put, more_room}
use Rattle.db_catalog.proofs.batch.Batch.put_null.Goals as goal

pub push_within-requires : goal.push_within-requires
push_within-requires c = next_within _ _ _ _ _ _ value.Null c.self.invariant (subst (λ b. FitsNext b value.Null) (sym c.self.view_is) c.requires)

one : (c : goal.After-push_within) → OneMore c.self.inside.columns.items c.self.inside.texts c.self.inside.texts c.self.inside.rows c.self.inside.words.items c.self.inside.row.items c.push_within.new.items.items (vec_capacity c.self.inside.row) value.Null
one c = put_value _ _ _ _ _ _ value.Null c.self.invariant (subst (λ b. FitsNext b value.Null) (sym c.self.view_is) c.requires) _ _ null_word (Begins_itself _) refl (λ column fits. (IsWord-null c.self.inside.texts column.kind, NULL_is_null c.self.inside.texts column.kind)) c.push_within.ensures.items

pub invariant_of-self : goal.invariant_of-self
invariant_of-self c = more_room _ _ _ _ _ _ _ (one c).batch c.push_within.ensures.room

pub returns : goal.returns
returns c = batch_of-put _ _ _ _ _ _ value.Null c.self.invariant (subst (λ b. FitsNext b value.Null) (sym c.self.view_is) c.requires) _ _ (one c) ∙ ap (λ b. with_value b value.Null) c.self.view_is
