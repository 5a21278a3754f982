-- The worst of some measures.
use Rattle.std.proofs.Common.{◌≡◌, inl, inr, ◌*◌, ◌≤◌, List, [], ◌∷◌, refl, subst, arith}
use Rattle.std.specs.Prelude.{All}
use Rattle.std.proofs.lemmas.Bool.{cases_lt}
use Rattle.std.proofs.lemmas.List.Elements.{All-head, All-tail}
use Rattle.plan_tree.proofs.Members.{IsIn}
use Rattle.audit_run.specs.Measures.{Measure, worst_of}
use Rattle.audit_run.proofs.Quotients.{IsNoWorse, no_worse-then, worse_of, worse-first, worse-second}

-- a plan costs and works something
pub record IsMeasure (m : Measure) : Type 0 where
  pub cost : 1 ≤ m.cost
  pub work : 1 ≤ m.work

either : (P : Measure → Type 0) (m other : Measure) → P m → P other → P (worse_of m other)
either P m other one two =
    elim (cases_lt (m.cost * other.work) (other.cost * m.work)) [
      | inl worse ↦ rw (worse-second m other worse) two
      | inr first ↦ rw (worse-first m other first) one
    ]

pub worst-some : (measures : List Measure) → All IsMeasure measures → 1 ≤ (worst_of measures).work
worst-some [] are = omega arith
worst-some (m ∷ more) are =
    let here = All-head IsMeasure m more are in
    either (λ one. 1 ≤ one.work) m (worst_of more) here.work (worst-some more (All-tail IsMeasure m more are))

-- none is worse
pub worst-most : (m : Measure) (measures : List Measure) → All IsMeasure measures → IsIn m measures → IsNoWorse m (worst_of measures)
worst-most m [] are is = absurd is
worst-most m (n ∷ more) are is =
    let rest = worst_of more in
    let later = All-tail IsMeasure n more are in
    let some = worst-some more later in
    elim (cases_lt (n.cost * rest.work) (rest.cost * n.work)) [
      | inl worse ↦
          rw (worse-second n rest worse)
          (elim is [
            | inl same ↦ subst (λ one. IsNoWorse one rest) same (omega (arith, worse))
            | inr among ↦ worst-most m more later among
          ])
      | inr first ↦
          rw (worse-first n rest first)
          (elim is [
            | inl same ↦ subst (λ one. IsNoWorse one n) same (omega arith)
            | inr among ↦ no_worse-then m rest n some (worst-most m more later among) first
          ])
    ]

worst-costs : (m : Measure) (more : List Measure) → All IsMeasure (m ∷ more) → 1 ≤ (worst_of (m ∷ more)).cost
worst-costs m [] are = rw (worse-first m (record { cost = 0; work = 1 }) (omega arith)) (All-head IsMeasure m [] are).cost
worst-costs m (n ∷ more) are =
    either (λ one. 1 ≤ one.cost) m (worst_of (n ∷ more)) (All-head IsMeasure m (n ∷ more) are).cost
    (worst-costs n more (All-tail IsMeasure m (n ∷ more) are))

-- the first plan takes the place of none
pub worst-begins : (measures : List Measure) → All IsMeasure measures
    → worse_of (record { cost = 0; work = 1 }) (worst_of measures) ≡ worst_of measures
worst-begins [] are = refl
worst-begins (m ∷ more) are =
    let here = All-head IsMeasure m more are in
    let worst = worst_of (m ∷ more) in
    let some = worst-costs m more are in
    worse-second (record { cost = 0; work = 1 }) worst (omega (arith, some))
