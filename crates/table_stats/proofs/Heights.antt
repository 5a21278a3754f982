-- Heights of indexes: 1 to 4 levels for as many rows as a table may have.
use Rattle.std.proofs.Common.{◌≡◌, ℕ, ◌+◌, ◌-◌, ◌^◌, ◌<◌, ◌≤◌, leb, inl, inr, arith}
use Rattle.std.specs.Prelude.{true, false}
use Rattle.std.proofs.lemmas.Bool.{cases_lt}
use Rattle.std.proofs.lemmas.Bool.Decides.{nat_tests}
use Rattle.std.proofs.Math.Nat.{pow-le-pow_right}
use Rattle.sql_values.specs.Limits.{max_rows}
use Rattle.btree_index.specs.Height.{height_of}
use Rattle.plan_tree.proofs.Digits.{least-is}

-- the least height with room, where one level fewer has none
pub height-is : (entries height : ℕ) → 1 ≤ height → height ≤ 1 + entries → entries ≤ 64 ^ height → (1 < height → 64 ^ (height - 1) < entries) → height_of entries ≡ height
height-is entries height some few room fewer =
    let met : leb entries (64 ^ height) ≡ true = grind (arith, nat_tests, room) in
    let before : (j : ℕ) → 1 ≤ j → j < height → leb entries (64 ^ j) ≡ false = λ j from less.
    let most : 64 ^ j ≤ 64 ^ (height - 1) = pow-le-pow_right (omega arith) (omega (arith, less)) in
    let short : 64 ^ (height - 1) < entries = fewer (omega (arith, from, less)) in
    let past : 64 ^ j < entries = omega (arith, most, short) in
    grind (arith, nat_tests, past) in
    least-is entries 1 height (λ levels. leb entries (64 ^ levels)) some few before met

pub record IsLow (entries : ℕ) : Type 0 where
  pub some : 1 ≤ height_of entries
  pub few : height_of entries ≤ 4

low-as : (entries height : ℕ) → height_of entries ≡ height → 1 ≤ height → height ≤ 4 → IsLow entries
low-as entries height is some few = record { some = omega (arith, is, some); few = omega (arith, is, few) }

pub low : (entries : ℕ) → entries ≤ max_rows → IsLow entries
low entries few =
    elim (cases_lt 64 entries) [
      | inr one ↦ low-as entries 1 (height-is entries 1 (omega arith) (omega arith) (omega (arith, one)) (λ no. absurd (omega (arith, no)))) (omega arith) (omega arith)
      | inl two ↦ elim (cases_lt 4096 entries) [
        | inr room ↦ low-as entries 2 (height-is entries 2 (omega arith) (omega (arith, two)) (omega (arith, room)) (λ _. omega (arith, two))) (omega arith) (omega arith)
        | inl three ↦ elim (cases_lt 262144 entries) [
          | inr room ↦ low-as entries 3 (height-is entries 3 (omega arith) (omega (arith, three)) (omega (arith, room)) (λ _. omega (arith, three))) (omega arith) (omega arith)
          | inl four ↦ low-as entries 4 (height-is entries 4 (omega arith) (omega (arith, four)) (omega (arith, few)) (λ _. omega (arith, four))) (omega arith) (omega arith)
        ]
      ]
    ]
