-- The least number that passes a test.
use Rattle.std.proofs.Common.{◌≡◌, ℕ, zero, suc, ◌+◌, ◌-◌, ◌<◌, ◌≤◌, refl, ap, subst, arith}
use Rattle.std.proofs.Math.Logic.{⊎_elim}
use Rattle.std.proofs.lemmas.Bool.{cases_Bool}
use Rattle.std.specs.Prelude.{Bool, true, false}
use Rattle.btree_index.specs.Height.{least_from}

-- a number that passes is the least from itself on
pub least_from-met : (more at : ℕ) (test : ℕ → Bool) → test at ≡ true → least_from more at test ≡ at
least_from-met zero at test met = refl
least_from-met (suc more) at test met = rw met refl

-- and from one that doesn't the search goes on behind it
pub least_from-passed : (more at : ℕ) (test : ℕ → Bool) → 0 < more → test at ≡ false → least_from more at test ≡ least_from (more - 1) (at + 1) test
least_from-passed zero at test some failed = absurd (omega arith)
least_from-passed (suc more) at test some failed = let rest : more ≡ suc more - 1 = omega arith in rw failed (ap (λ k. least_from k (at + 1) test) rest)

-- no number below the first is given
pub least_from-most : (more at : ℕ) (test : ℕ → Bool) → at ≤ least_from more at test
least_from-most zero at test = omega arith
least_from-most (suc more) at test =
    ⊎_elim (λ t. rw t (omega arith)) (λ f. let rest = least_from-most more (at + 1) test in rw f (omega arith)) (cases_Bool (test at))

-- what is given passes, where the last one does
pub least_from-passes : (more at : ℕ) (test : ℕ → Bool) → test (at + more) ≡ true → test (least_from more at test) ≡ true
least_from-passes zero at test last = let same : at + zero ≡ at = omega arith in subst (λ k. test k ≡ true) same last
least_from-passes (suc more) at test last =
    let same : at + suc more ≡ at + 1 + more = omega arith in
    let rest = least_from-passes more (at + 1) test (subst (λ k. test k ≡ true) same last) in
    ⊎_elim (λ t. rw t t) (λ f. rw f rest) (cases_Bool (test at))
