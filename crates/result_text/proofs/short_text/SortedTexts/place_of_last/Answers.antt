use Rattle.std.proofs.Common.{◌≡◌, ◌++◌, ◌∷◌, [], ◌∙◌, Some, ap, sym, arith, subst, to_z, of_z, w64, true≢false}
use Rattle.std.proofs.lemmas.Int.{to_z-of_z}
use Rattle.result_text.specs.Lists.{last_of}
use Rattle.result_text.specs.Ranks.{AreAscending}
use Rattle.result_text.proofs.Ascent.{ascending_push, last_less, last_of-push}
use Rattle.result_text.proofs.short_text.SortedTexts.place_of_last.Goals as goal

pushed : (c : goal.After-last_place-2) → c.push.new.self.items ≡ c.args.self.now ++ c.args.text ∷ []
pushed c = c.in_ok-push.ensures.items ∙ ap (λ l. l ++ c.args.text ∷ []) c.self.view_is

pub returns-clause-ascending : goal.returns-clause-ascending
returns-clause-ascending c =
    let differs : last_of c.args.self.now ≡ Some c.args.text → _ = λ there. true≢false (sym (c.ends_with.ensures.1 there) ∙ c.if-ends_with.false) in
    subst AreAscending (sym (pushed c)) (ascending_push c.args.self.now c.args.text c.requires.ascending (last_less _ c.args.text c.requires.not_less differs))

pub returns-clause-last : goal.returns-clause-last
returns-clause-last c = ap last_of (pushed c) ∙ last_of-push c.args.self.now c.args.text

pub returns-clause-place : goal.returns-clause-place
returns-clause-place c =
    let same : to_z w64 (of_z w64 c.last_place-2.result) ≡ c.last_place-2.result = grind (arith, to_z-of_z) in
    rw same (c.last_place-2.ensures ∙ ap last_of (pushed c) ∙ last_of-push c.args.self.now c.args.text)
