-- How many points a grid can have.
use Rattle.std.proofs.Common.{ℕ, zero, suc, ◌^◌, ◌<◌, ◌≤◌, arith, lit≤}
use Rattle.std.proofs.lemmas.Grind.{common_steps}
use Rattle.std.proofs.Math.Nat.{pow-le-pow_left, pow-le-pow_right}
use Rattle.sql_values.specs.Limits.{max_axes, max_levels, max_points}
use Rattle.ess_grid.specs.Levels.{default_levels}

-- 25 levels on 6 axes are 244140625 points
pub few_points : (levels axes : ℕ) → 1 ≤ levels → levels ≤ max_levels → axes ≤ max_axes → levels ^ axes < 2 ^ 64
few_points levels axes some few axes_few = grind (arith, common_steps, pow-le-pow_right, pow-le-pow_left)

-- with the default levels they are never too many
pub few_default_points : (axes : ℕ) → axes ≤ max_axes → default_levels axes ^ axes ≤ max_points
few_default_points zero few = lit≤ tt
few_default_points (suc zero) few = lit≤ tt
few_default_points (suc (suc zero)) few = lit≤ tt
few_default_points (suc (suc (suc zero))) few = lit≤ tt
few_default_points (suc (suc (suc (suc zero)))) few = lit≤ tt
few_default_points (suc (suc (suc (suc (suc zero))))) few = lit≤ tt
few_default_points (suc (suc (suc (suc (suc (suc zero)))))) few = lit≤ tt
few_default_points (suc (suc (suc (suc (suc (suc (suc axes))))))) few = absurd (omega (arith, few))
