use Rattle.std.proofs.Common.{SFits, w64, sym, ◌∙◌, rules}
use Rattle.std.proofs.lemmas.Int.{to_z-of_z}
use Rattle.plan_tree.proofs.Narrowing.{by-code, by-no-code}
use Rattle.plan_tree.proofs.range.by_text.Goals as goal

pub returns-in-Some : goal.returns-in-Some
returns-in-Some c = λ kind text.
    let own : SFits w64 c.in-Some.code = search rules in
    let by = simp to_z-of_z at c.by_word.ensures in
    by-code c.args.texts.now kind c.args.text.now c.in-Some.code c.args.range c.by_word.result by (sym c.code_of.ensures ∙ c.in-Some.is) text

pub returns-in-None : goal.returns-in-None
returns-in-None c = λ kind text. by-no-code c.args.texts.now kind c.args.text.now c.args.range (sym c.code_of.ensures ∙ c.in-None.is) text
