use Rattle.std.proofs.Common.{ℕ, ◌≡◌, ◌<◌, ◌≤◌, ◌^◌, arith}
use Rattle.std.proofs.lemmas.Bool.Decides.{nat_tests}
use Rattle.std.proofs.Math.Nat.{pow-le-pow_right, lt_of_not-le}
use Rattle.std.proofs.lemmas.Grind.{pow_more, common_steps}
use Rattle.btree_index.proofs.Least.{least_from-passed}
use Rattle.btree_index.proofs.run.height_for.Goals as goal

-- an index of so many entries as there are numbers of 64 bits has at most 11 levels
levels_fit : (room height entries : ℕ) → room ≡ 64 ^ height → room < entries → entries ≤ 2 ^ 64 → height < 11
levels_fit room height entries is short fits =
    lt_of_not-le (λ more. let least : 64 ^ 11 ≤ 64 ^ height = pow-le-pow_right (omega arith) more in omega (arith, least, is, short, fits))

pub loop-room-preserved : goal.loop-room-preserved
loop-room-preserved c = grind (arith, common_steps, levels_fit, nat_tests, least_from-passed, pow_more)
