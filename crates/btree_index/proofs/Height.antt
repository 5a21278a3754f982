-- The height of an index, and how many nodes its levels have.
use Rattle.std.proofs.Common.{◌≡◌, ℕ, zero, suc, ◌+◌, ◌-◌, ◌*◌, ◌^◌, ◌<◌, ◌≤◌, refl, sym, subst, arith, max}
use Rattle.std.specs.Prelude.{nat_le}
use Rattle.std.specs.Int.{div_ceil}
use Rattle.std.proofs.Math.Nat.{lt_of_mul-lt-mul_right, mul-le-mul_right, le_antisymm, one-le-pow, lt_of_not-le}
use Rattle.std.proofs.lemmas.Bool.{leb-true, le-leb}
use Rattle.std.proofs.lemmas.Grind.{div_ceil_times, pow_more, common_steps}
use Rattle.btree_index.specs.Height.{height_of}
use Rattle.btree_index.specs.Nodes.{nodes_up_to, nodes_of}
use Rattle.btree_index.proofs.Least.{least_from-most, least_from-passes}

-- a quotient is rounded up to no more than a number of which so many parts have room
pub ceil_least : (n b most : ℕ) → 0 < b → n ≤ most * b → div_ceil n b ≤ most
ceil_least n b most some room = grind (arith, common_steps, div_ceil_times, lt_of_mul-lt-mul_right)

pub ceil_room : (n b : ℕ) → 0 < b → n ≤ div_ceil n b * b
ceil_room n b some = (div_ceil_times n b some).0

pub pow_some : (k : ℕ) → 0 < 64 ^ k
pow_some k = let one : 1 ≤ 64 ^ k = one-le-pow k 64 (omega arith) in omega arith

-- the nodes above a level are counted as those above the leaves
pub ceil_again : (n b : ℕ) → 0 < b → div_ceil (div_ceil n b) 64 ≡ div_ceil n (b * 64)
ceil_again n b some =
    let parts = div_ceil n b in
    let whole = div_ceil n (b * 64) in
    let room = ceil_room n b some in
    let more = mul-le-mul_right b (ceil_room parts 64 (omega arith)) in
    let up : n ≤ div_ceil parts 64 * (b * 64) = omega arith in
    let back = ceil_room n (b * 64) (omega arith) in
    let again : n ≤ whole * 64 * b = omega arith in
    le_antisymm (ceil_least parts 64 whole (omega arith) (ceil_least n b (whole * 64) some again)) (ceil_least n (b * 64) (div_ceil parts 64) (omega arith) up)

pub height_some : (n : ℕ) → 1 ≤ height_of n
height_some n = least_from-most n 1 (λ levels. nat_le n (64 ^ levels))

-- a power is greater than its exponent
below_power : (n : ℕ) → n < 64 ^ n
below_power zero = pow_some 0
below_power (suc n) = let next = pow_more 64 n in let before = below_power n in let same : suc n ≡ n + 1 = omega arith in subst (λ k. k < 64 ^ k) (sym same) (omega arith)

-- a tree of its height has room for the entries
pub height_room : (n : ℕ) → n ≤ 64 ^ height_of n
height_room n = grind (arith, common_steps, below_power, leb-true, least_from-passes, le-leb)

parts_some : (n b : ℕ) → 0 < b → 0 < n → 0 < div_ceil n b
parts_some n b some more =
    lt_of_not-le (λ none. let nothing = mul-le-mul_right b none in let room = ceil_room n b some in omega arith)

-- the nodes of one more level
pub nodes_more : (n level : ℕ) → 0 < level → 0 < n → nodes_up_to n level ≡ nodes_up_to n (level - 1) + div_ceil n (64 ^ level)
nodes_more n zero some more = absurd (omega arith)
nodes_more n (suc below) some more = grind (arith, common_steps, parts_some, pow_some)

-- and the last level is one node
pub nodes_whole : (n height : ℕ) → 0 < height → n ≤ 64 ^ height → nodes_up_to n height ≡ nodes_up_to n (height - 1) + 1
nodes_whole n zero some room = absurd (omega arith)
nodes_whole n (suc below) some room =
    let less : suc below - 1 ≡ below = omega arith in
    let same : below + 1 ≡ suc below = omega arith in
    let parts = ceil_least n (64 ^ suc below) 1 (pow_some (suc below)) (omega arith) in
    let all : max 1 (div_ceil n (64 ^ suc below)) ≡ 1 = omega arith in
    rw (less, same, all) refl

-- the root is one node
pub root_size : (n height : ℕ) → 1 ≤ height → n ≤ 64 ^ height → div_ceil n (64 ^ (height - 1)) ≤ 64
root_size n height some room = grind (arith, common_steps, pow_more, ceil_least, pow_some)

-- the nodes of the next level
pub level_size : (n level size : ℕ) → 1 ≤ level → size ≡ div_ceil n (64 ^ (level - 1)) → div_ceil size 64 ≡ div_ceil n (64 ^ level)
level_size n level size some is = grind (arith, common_steps, ceil_again, pow_some, pow_more)

-- an index of more than one level has entries
pub entries_some : (n : ℕ) → 2 ≤ height_of n → 0 < n
entries_some zero more = absurd (omega arith)
entries_some (suc n) more = omega arith

-- the words of the inner nodes are the nodes but for the root
pub nodes_counted : (n height words : ℕ) → height ≡ height_of n → words ≡ nodes_up_to n (height - 1) → words + 1 ≡ nodes_of n
nodes_counted n height words stated counted = grind (arith, common_steps, nodes_whole, height_some, height_room)
