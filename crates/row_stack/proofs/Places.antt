-- Where rows begin and end among the words.
use Rattle.std.proofs.Common.{ℕ, ◌+◌, ◌*◌, ◌<◌, ◌≤◌, arith}
use Rattle.std.proofs.Math.Nat.{mul-le-mul_right, le-mul_of_pos_right}

-- a row ends where the rows up to it end
pub row_end : (i n width : ℕ) → i < n → i * width + width ≤ n * width
row_end i n width below = grind arith

-- fewer rows take no more words
pub fewer_words : (m n width : ℕ) → m ≤ n → m * width ≤ n * width
fewer_words m n width few = mul-le-mul_right width few

-- there are no more rows than words, for a row has some
pub rows_in_words : (n width words : ℕ) → n * width ≤ words → 1 ≤ width → n ≤ words
rows_in_words n width words fits some = omega (arith, le-mul_of_pos_right n some)
