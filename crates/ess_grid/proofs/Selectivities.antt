-- Selectivities double from halving to halving, and grow from level to level.
use Rattle.std.proofs.Common.{◌≡◌, ℕ, ◌+◌, ◌-◌, ◌*◌, ◌^◌, ◌<◌, ◌≤◌, ap, sym, ◌∙◌, arith}
use Rattle.std.proofs.lemmas.Grind.{common_steps}
use Rattle.std.proofs.lemmas.Nat.{pow_below, pow_pos, pow-add, le-div}
use Rattle.std.proofs.Math.Nat.{div-mul-le_self, mul-le-mul_left, pow-le-pow_right}
use Rattle.sql_values.specs.Limits.{min_levels, max_levels}
use Rattle.ess_grid.specs.Levels.{selectivity_bits, full_selectivity, step_of, halvings_of, selectivity_of}

-- the whole isn't halved more often than it has bits
pub halvings_of-le : (levels level : ℕ) → halvings_of levels level ≤ selectivity_bits
halvings_of-le levels level = grind (arith, common_steps, mul-le-mul_left, div-mul-le_self)

-- a selectivity doubled as often as the whole was halved is the whole
pub selectivity_of-halvings : (levels level : ℕ) → selectivity_of levels level * 2 ^ halvings_of levels level ≡ full_selectivity
selectivity_of-halvings levels level =
    let all : selectivity_bits - halvings_of levels level + halvings_of levels level ≡ selectivity_bits = omega (arith, halvings_of-le levels level) in
    sym (pow-add 2 (selectivity_bits - halvings_of levels level) (halvings_of levels level)) ∙ ap (λ n. 2 ^ n) all

pub selectivity_of-some : (levels level : ℕ) → 1 ≤ selectivity_of levels level
selectivity_of-some levels level = pow_pos (selectivity_bits - halvings_of levels level)

pub selectivity_of-le : (levels level : ℕ) → selectivity_of levels level ≤ full_selectivity
selectivity_of-le levels level =
    let fewer : selectivity_bits - halvings_of levels level ≤ selectivity_bits = omega arith in
    pow-le-pow_right (omega arith) fewer

-- a level is halved once at least to come to the one below
pub step_of-some : (levels : ℕ) → min_levels ≤ levels → levels ≤ max_levels → 1 ≤ step_of levels
step_of-some levels some few = le-div 1 selectivity_bits (levels - 1) (omega arith) (omega arith)

-- selectivities grow with the level
pub selectivity_of-lt : (levels lower higher : ℕ) → min_levels ≤ levels → levels ≤ max_levels → lower < higher → higher < levels → selectivity_of levels lower < selectivity_of levels higher
selectivity_of-lt levels lower higher some few less there =
    grind (arith, common_steps, mul-le-mul_left, pow_below, step_of-some, halvings_of-le)

-- the highest level stands for the whole
pub selectivity_of-top : (levels : ℕ) → selectivity_of levels (levels - 1) ≡ full_selectivity
selectivity_of-top levels = grind (arith, common_steps)
