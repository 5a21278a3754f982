use Rattle.std.proofs.Common.{SFits, w64, rules}
use Rattle.std.proofs.lemmas.Int.{to_z-of_z}
use Rattle.plan_tree.proofs.Narrowing.{by-number}
use Rattle.plan_tree.proofs.range.by_literal.Goals as goal

pub returns-in-Int : goal.returns-in-Int
returns-in-Int c =
    let own : SFits w64 c.in-Int.number = search rules in
    let by = simp to_z-of_z at c.by_word.ensures in
    rw c.in-Int.is (λ kind literal. by-number c.args.texts.now kind c.args.op c.in-Int.number c.args.range c.by_word.result by literal)
