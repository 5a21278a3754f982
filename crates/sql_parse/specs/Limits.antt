-- The figure of conditions.
use Rattle.std.specs.Prelude.{ℕ}

-- how deep parentheses around conditions nest at most
abbrev pub nesting_limit : ℕ
nesting_limit = 32
