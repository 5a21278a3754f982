-- The digits of a number of 64 bits are few.
use Rattle.std.proofs.Common.{ℕ, ◌^◌, ◌<◌, ◌≤◌, length, arith}
use Rattle.std.specs.Prelude.{decimal}
use Rattle.std.proofs.lemmas.Fmt.{length-decimal-le}

pub rows_digits : (rows : ℕ) → rows < 2 ^ 64 → length (decimal rows) ≤ 20
rows_digits rows small = length-decimal-le 20 rows (omega arith) (omega arith) small
