-- Numbers of 128 bits, the greatest of which stands for every greater one: what comes of such numbers stands for what comes of those
-- for which they stand.
use Rattle.std.proofs.Common.{◌≡◌, ℕ, ◌*◌, ◌-◌, ◌^◌, ◌<◌, Bool, true, false, refl, arith}
use Rattle.std.specs.Prelude.{max, cond}
use Rattle.plan_tree.specs.Work.{capped, index_scan_line, nest_work, index_loop_work}
use Rattle.plan_tree.proofs.Capped.{one-capped, product-capped}

pub nest-capped : (l r out : ℕ) → capped (nest_work (capped l) (capped r) (capped out)) ≡ capped (nest_work l r out)
nest-capped l r out = omega (arith, product-capped l r)

pub index_loop-capped : (height l known out : ℕ) → known < 2 ^ 64
    → capped (index_loop_work height (capped l) (max (capped out) known) (capped out)) ≡ capped (index_loop_work height l (max out known) out)
index_loop-capped height l known out small = omega (arith, one-capped (2 * height) l, small)

pub index_scan-capped : (height out : ℕ) → capped (index_scan_line height (capped out) (capped out)) ≡ capped (index_scan_line height out out)
index_scan-capped height out = omega arith

pub pairs-capped : (joined : Bool) (known l r : ℕ) → known < 2 ^ 64 → capped (cond joined known (max known (capped l * capped r))) ≡ capped (cond joined known (max known (l * r)))
pairs-capped true known l r small = refl
pairs-capped false known l r small = omega (arith, product-capped l r)
