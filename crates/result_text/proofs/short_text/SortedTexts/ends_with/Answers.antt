use Rattle.std.proofs.Common.{◌≡◌, ◌∙◌, Some, ap, sym}
use Rattle.result_text.specs.Lists.{last_of}
use Rattle.result_text.proofs.Ascent.{is_last}
use Rattle.result_text.proofs.short_text.SortedTexts.ends_with.Goals as goal

pub returns-in-Some : goal.returns-in-Some
returns-in-Some c =
    let at : last_of c.args.self.now ≡ Some c.in-Some.last.now = ap last_of (sym (c.deref.ensures.value ∙ c.self.view_is)) ∙ sym c.in-Some.ensures.value in
    is_last _ _ _ _ at c.eq.ensures
