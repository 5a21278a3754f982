use Rattle.std.proofs.Common.{◌≡◌, ◌∙◌, [], ◌∷◌, ◌++◌, sym, ap, subst, vec_capacity, SFits, w64, rules}
use Rattle.std.proofs.lemmas.Int.{to_z-of_z}
use Rattle.sql_values.specs.declared.value.Value.TheVariants as value
use Rattle.sql_values.specs.Dictionary.{Begins}
use Rattle.sql_values.proofs.Dictionary.{Begins_itself, Begins-with_text}
use Rattle.sql_values.proofs.Stored.{IsWord-code, code_is_text}
use Rattle.db_catalog.specs.Batch.{FitsNext, with_value}
use Rattle.db_catalog.proofs.BatchParts.{OneMore, next_within, put_value, batch_of-put, more_room}
use Rattle.db_catalog.proofs.batch.Batch.put_text.Goals as goal

pub push_within-requires : goal.push_within-requires
push_within-requires c = next_within _ _ _ _ _ _ (value.Text c.args.text.now) c.self.invariant (subst (λ b. FitsNext b (value.Text c.args.text.now)) (sym c.self.view_is) c.requires)

one : (c : goal.After-push_within) → OneMore c.self.inside.columns.items c.self.inside.texts c.add.new.self c.self.inside.rows c.self.inside.words.items c.self.inside.row.items c.push_within.new.items.items (vec_capacity c.self.inside.row) (value.Text c.args.text.now)
one c =
    let fits : SFits w64 c.in_ok-code.code = search rules in
    let put : c.push_within.new.items.items ≡ c.self.inside.row.items ++ c.in_ok-code.code ∷ [] = simp to_z-of_z at c.push_within.ensures.items in
    let begins : Begins c.self.inside.texts c.add.new.self = subst (Begins c.self.inside.texts) (sym c.in_ok-code.ensures.texts) (Begins-with_text _ _ c.args.text.now (Begins_itself _)) in
    put_value _ _ _ _ _ _ (value.Text c.args.text.now) c.self.invariant (subst (λ b. FitsNext b (value.Text c.args.text.now)) (sym c.self.view_is) c.requires) _ _ c.in_ok-code.code begins c.in_ok-code.ensures.texts
    (λ column fits. (IsWord-code _ column.kind c.args.text.now c.in_ok-code.code fits c.in_ok-code.ensures.code, code_is_text _ column.kind c.args.text.now c.in_ok-code.code fits c.in_ok-code.ensures.code)) put

pub invariant_of-self-2 : goal.invariant_of-self-2
invariant_of-self-2 c = more_room _ _ _ _ _ _ _ (one c).batch c.push_within.ensures.room

pub returns : goal.returns
returns c = record { unchanged = tt; made = batch_of-put _ _ _ _ _ _ (value.Text c.args.text.now) c.self.invariant (subst (λ b. FitsNext b (value.Text c.args.text.now)) (sym c.self.view_is) c.requires) _ _ (one c) ∙ ap (λ b. with_value b (value.Text c.args.text.now)) c.self.view_is }
