-- The first level, and the others behind it.
use Rattle.std.proofs.Common.{◌≡◌, ◌∙◌, ℕ, List, [], ◌++◌, drop, sym, ap, subst, append_assoc, append-nil, arith}
use Rattle.std.specs.Prelude.{decimal}
use Rattle.std.proofs.lemmas.List.{drop_all}
use Rattle.workspace.specs.Printed.{point_text}
use Rattle.workspace.proofs.PointTexts.{others_text, point_text-first}
use Rattle.workspace.proofs.lines.push_point.Goals as goal

pub returns : goal.returns
returns c =
    let start : List ℕ = c.args.text.now.items in
    let first : ℕ = c.in-Some.first.now in
    let others : List ℕ = c.in-Some.others.now in
    let over : drop c.loop-level.level-index others ≡ [] = drop_all c.loop-level.level-index others (omega (arith, c.loop-level-test.false)) in
    let begun : c.extend_from_slice-2.new.self.items ≡ start ++ decimal first = c.in_ok-extend_from_slice.ensures.items ∙ ap (λ l. start ++ l) (c.as_bytes.ensures.value ∙ c.format.ensures.text) in
    sym (append-nil c.loop-level.text.items)
    ∙ subst (λ (l : List ℕ). c.loop-level.text.items ++ others_text l ≡ c.extend_from_slice-2.new.self.items ++ others_text others) over c.loop-level.invariant
    ∙ ap (λ l. l ++ others_text others) begun
    ∙ append_assoc start (decimal first) (others_text others)
    ∙ ap (λ l. start ++ l) (sym (ap point_text c.in-Some.ensures.cases.0 ∙ point_text-first first others))
