use Rattle.std.proofs.Common.{◌≡◌, ◌∙◌, [], ◌∷◌, ◌++◌, sym, ap, subst, refl, vec_capacity, SFits, w64}
use Rattle.std.proofs.lemmas.Int.{to_z-of_z}
use Rattle.sql_values.specs.declared.value.Value.TheVariants as value
use Rattle.sql_values.proofs.Dictionary.{Begins_itself}
use Rattle.sql_values.proofs.Stored.{IsWord-int, number_is_int}
use Rattle.db_catalog.specs.Batch.{FitsNext, with_value}
use Rattle.db_catalog.proofs.BatchParts.{OneMore, next_within, put_value, batch_of-put, more_room}
use Rattle.db_catalog.proofs.batch.Batch.put_int.Goals as goal

pub push_within-requires : goal.push_within-requires
push_within-requires c = next_within _ _ _ _ _ _ (value.Int c.args.number) c.self.invariant (subst (λ b. FitsNext b (value.Int c.args.number)) (sym c.self.view_is) c.requires)

one : (c : goal.After-push_within) → OneMore c.self.inside.columns.items c.self.inside.texts c.self.inside.texts c.self.inside.rows c.self.inside.words.items c.self.inside.row.items c.push_within.new.items.items (vec_capacity c.self.inside.row) (value.Int c.args.number)
one c =
    let fits : SFits w64 c.args.number = c.ranges.number in
    let put : c.push_within.new.items.items ≡ c.self.inside.row.items ++ c.args.number ∷ [] = simp to_z-of_z at c.push_within.ensures.items in
    put_value _ _ _ _ _ _ (value.Int c.args.number) c.self.invariant (subst (λ b. FitsNext b (value.Int c.args.number)) (sym c.self.view_is) c.requires) _ _ c.args.number (Begins_itself _) refl (λ column fits. (IsWord-int c.self.inside.texts column.kind c.args.number fits.0, number_is_int c.self.inside.texts column.kind c.args.number fits.0 fits.1)) put

pub invariant_of-self : goal.invariant_of-self
invariant_of-self c = more_room _ _ _ _ _ _ _ (one c).batch c.push_within.ensures.room

pub returns : goal.returns
returns c = batch_of-put _ _ _ _ _ _ (value.Int c.args.number) c.self.invariant (subst (λ b. FitsNext b (value.Int c.args.number)) (sym c.self.view_is) c.requires) _ _ (one c) ∙ ap (λ b. with_value b (value.Int c.args.number)) c.self.view_is
