-- The limit of a query.
use Rattle.std.specs.Prelude.{ℕ}

-- the most units of work of a query: 2^62
abbrev pub max_work : ℕ
max_work = 4611686018427387904
