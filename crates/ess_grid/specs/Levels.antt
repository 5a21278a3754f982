-- The levels of an axis, and the selectivities for which they stand.
use Rattle.std.specs.Prelude.{ℕ, ◌-◌, ◌*◌, ◌/◌, ◌^◌, ◌==◌, nat_le, if◌then◌else◌, Option, unwrap_or}

-- a selectivity is a number of parts of which 2^24 make the whole
abbrev pub selectivity_bits : ℕ
selectivity_bits = 24

abbrev pub full_selectivity : ℕ
full_selectivity = 2 ^ selectivity_bits

-- the levels of each axis where none are given: the more axes, the fewer levels
abbrev pub default_levels : ℕ → ℕ
default_levels axes =
    if nat_le axes 2 then 25
    else (if axes == 3 then 13
    else (if axes == 4 then 7
    else (if axes == 5 then 5
    else 4)))

-- the levels of each axis, given or not
abbrev pub levels_of : ℕ → Option ℕ → ℕ
levels_of axes given = unwrap_or given (default_levels axes)

-- from one level to the one below the selectivity is halved so often
abbrev pub step_of : ℕ → ℕ
step_of levels = selectivity_bits / (levels - 1)

-- from the whole, at the highest level, to this level the selectivity is halved so often
abbrev pub halvings_of : ℕ → ℕ → ℕ
halvings_of levels level = step_of levels * (levels - 1 - level)

-- the selectivity for which this level, from 0, stands, in parts of the whole
abbrev pub selectivity_of : ℕ → ℕ → ℕ
selectivity_of levels level = 2 ^ (selectivity_bits - halvings_of levels level)
