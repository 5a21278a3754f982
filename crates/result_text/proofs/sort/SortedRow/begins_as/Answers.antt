use Rattle.std.proofs.Common.{◌≡◌, take, ap, sym, ◌∙◌, of_z, to_z, arith}
use Rattle.std.proofs.lemmas.Int.{to_z-of_z}
use mir.Syntax.{w128}
use Rattle.result_text.proofs.SortKeys.{key_near, key_same}
use Rattle.result_text.proofs.sort.SortedRow.begins_as.Goals as goal

pub returns-then-abs_diff-ge18446744073709551616 : goal.returns-then-abs_diff-ge18446744073709551616
returns-then-abs_diff-ge18446744073709551616 c =
    let own : to_z w128 (of_z w128 c.self.inside.key) ≡ c.self.inside.key = grind (arith, to_z-of_z) in
    let other : to_z w128 (of_z w128 c.other.inside.key) ≡ c.other.inside.key = grind (arith, to_z-of_z) in
    let apart = rw (own, other) at c.abs_diff.ensures in (
      λ never. cc,
      λ same. absurd (omega (
        arith,
        c.if-abs_diff-ge18446744073709551616.true,
        apart,
        key_near c.self.invariant c.other.invariant c.args.count c.if-count-gt0.true (ap (take c.args.count) c.self.view_is ∙ same ∙ ap (take c.args.count) (sym c.other.view_is)),
      )),
    )

pub returns-then-self-other : goal.returns-then-self-other
returns-then-self-other c =
    (λ never. cc, λ same. absurd (c.if-self-other.true (ap (of_z w128) (key_same c.self.invariant c.other.invariant _ c.if-count-gt1.true (ap (take c.args.count) c.self.view_is ∙ same ∙ ap (take c.args.count) (sym c.other.view_is))))))
