use Rattle.std.proofs.Common.{◌≡◌, ◌++◌, ◌∷◌, [], sym, subst, SFits, w64, rules}
use Rattle.std.proofs.lemmas.Int.{to_z-of_z}
use Rattle.sql_values.specs.Dictionary.{Begins}
use Rattle.sql_values.proofs.Dictionary.{next_put, Begins-with_text}
use Rattle.sql_values.proofs.texts.Texts.put_all.Goals as goal

pub loop-text-preserved : goal.loop-text-preserved
loop-text-preserved c =
    let (begins, whole, coded) = c.loop-text.invariant in
    let fits : SFits w64 c.in_ok-put.field-0 = search rules in
    let pushed : c.push.new.self.items ≡ c.loop-text.codes.items ++ c.in_ok-put.field-0 ∷ [] = simp to_z-of_z at c.in_ok-push.ensures.items in
    let (whole_now, coded_now) = next_put _ _ _ _ _ _ _ _ _ _ c.in-Some.ensures.steps c.in_ok-put.ensures.texts c.in_ok-put.ensures.code pushed whole coded in
    (subst (Begins c.args.self.now) (sym c.in_ok-put.ensures.texts) (Begins-with_text _ _ _ begins), whole_now, coded_now)

pub returns-in_err-push-clause-begins : goal.returns-in_err-push-clause-begins
returns-in_err-push-clause-begins c = subst (Begins c.args.self.now) (sym c.in_ok-put.ensures.texts) (Begins-with_text _ _ _ c.loop-text.invariant.0)
