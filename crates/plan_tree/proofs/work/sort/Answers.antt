use Rattle.std.proofs.Common.{◌≡◌, ◌*◌, ap, ◌∙◌, arith}
use Rattle.std.proofs.lemmas.Grind.{common_steps}
use Rattle.std.proofs.lemmas.Nat.{leading_length}
use Rattle.std.proofs.Math.Nat.{mul-le-mul_left}
use Rattle.plan_tree.specs.Work.{bits, capped}
use Rattle.plan_tree.proofs.Digits.{bits-is}
use Rattle.plan_tree.proofs.work.sort.Goals as goal

pub returns-clause-work : goal.returns-clause-work
returns-clause-work c =
    let found = leading_length 128 c.args.rows (omega (arith, c.ranges.rows)) in
    let digits : bits c.args.rows ≡ found.0 = bits-is c.args.rows found.0 (record { below = found.2; above = found.3 }) in
    c.saturating_mul.ensures ∙ ap (λ n. capped (c.args.rows * n)) (omega (arith, c.from.ensures, found.1, digits))

pub returns-clause-bound : goal.returns-clause-bound
returns-clause-bound c = grind (arith, common_steps, mul-le-mul_left)
