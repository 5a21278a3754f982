-- What is known between two executions of an audit.
use Rattle.std.proofs.Common.{◌≡◌, ◌∙◌, ℕ, ◌+◌, ◌-◌, ◌^◌, ◌<◌, ◌≤◌, Bool, true, false, ◌&&◌, min, List, [], ◌∷◌, length, map, nat_le, if◌then◌else◌, refl, sym, ap, subst, arith}
use Rattle.std.specs.Prelude.{All}
use Rattle.std.specs.List.{sum_by}
use Rattle.std.proofs.lemmas.Bool.{le-ltb}
use Rattle.std.proofs.lemmas.List.Elements.{All-head, All-tail}
use Rattle.std.proofs.lemmas.List.Sums.{sum_by-cons}
use Rattle.cost_model.specs.Optimal.{least_of}
use Rattle.audit_run.specs.Measures.{Measure, are_within, is_worse, worst_of}
use Rattle.audit_run.specs.Executed.{measure, AreWith, HasWork}
use Rattle.audit_run.specs.declared.figures.Figures.{Figures}
use Rattle.audit_run.specs.declared.figures.Measured.{Measured}
use Rattle.audit_run.proofs.Quotients.{worse_of, worse_of-assoc}
use Rattle.audit_run.proofs.Worst.{IsMeasure, worst-begins}

abbrev pub works_of : List Measure → List ℕ
works_of measures = map (λ m. m.work) measures

-- the figures so far, with those of the plans that are left, are the figures of all
pub record AreFigures (whole rest : List Measure) (figures : Figures) (spent : ℕ) : Type 0 where
  pub below : (figures.below && are_within rest) ≡ are_within whole
  pub worst : worse_of (measure figures.worst) (worst_of rest) ≡ worst_of whole
  pub cheapest : least_of (figures.cheapest ∷ works_of rest) ≡ least_of ((2 ^ 128 - 1) ∷ works_of whole)
  pub work : spent + sum_by (λ m. m.work) rest ≡ sum_by (λ m. m.work) whole
  pub has : HasWork figures.worst
  pub measures : All IsMeasure rest

abbrev pub first_figures : Figures
first_figures = record { below = true; worst = record { cost = 0; work = 1 }; cheapest = 2 ^ 128 - 1 }

pub figures-begin : (whole : List Measure) → All IsMeasure whole → AreFigures whole whole first_figures 0
figures-begin whole are = record {
  below = refl;
  worst = worst-begins whole are;
  cheapest = refl;
  work = omega arith;
  has = record { some = omega arith; few = omega arith };
  measures = are;
}

both-below : (a b c : Bool) → ((a && b) && c) ≡ (a && (b && c))
both-below true b c = refl
both-below false b c = refl

least-next : (n m : ℕ) (more : List ℕ) → least_of (min n m ∷ more) ≡ least_of (n ∷ m ∷ more)
least-next n m [] = refl
least-next n m (k ∷ more) = omega arith

least-first : (n : ℕ) (more : List ℕ) → least_of (n ∷ more) ≤ n
least-first n [] = omega arith
least-first n (m ∷ more) = omega arith

and-true : (a : Bool) → (a && true) ≡ a
and-true true = refl
and-true false = refl

chosen : (P : Measured → Type 0) (test : Bool) (a b : Measured) → P a → P b → P (if test then a else b)
chosen P true a b one two = one
chosen P false a b one two = two

measure-chosen : (test : Bool) (a b : Measured) → measure (if test then a else b) ≡ (if test then measure a else measure b)
measure-chosen true a b = refl
measure-chosen false a b = refl

pub figures-next : (whole rest : List Measure) (m : Measured) (old new : Figures) (spent : ℕ) → AreFigures whole (measure m ∷ rest) old spent
    → HasWork m → AreWith m old new → AreFigures whole rest new (spent + m.work)
figures-next whole rest m old new spent are has with =
    let here = All-head IsMeasure (measure m) rest are.measures in
    let worse = is_worse (measure m) (measure old.worst) in
    let test = nat_le m.work m.cost in
    let below : (new.below && are_within rest) ≡ ((old.below && test) && are_within rest) = ap (λ b. b && are_within rest) with.below in
    let taken : measure new.worst ≡ worse_of (measure old.worst) (measure m) = ap measure with.worst ∙ measure-chosen worse m old.worst in
    let worst : worse_of (measure new.worst) (worst_of rest) ≡ worse_of (worse_of (measure old.worst) (measure m)) (worst_of rest) =
    ap (λ n. worse_of n (worst_of rest)) taken in
    let cheapest : least_of (new.cheapest ∷ works_of rest) ≡ least_of (min old.cheapest m.work ∷ works_of rest) =
    ap (λ n. least_of (n ∷ works_of rest)) with.cheapest in
    record {
      below = below ∙ both-below old.below test (are_within rest) ∙ are.below;
      worst = worst ∙ worse_of-assoc (measure old.worst) (measure m) (worst_of rest) are.has.some here.work ∙ are.worst;
      cheapest = cheapest ∙ least-next old.cheapest m.work (works_of rest) ∙ are.cheapest;
      work = omega (arith, are.work, sum_by-cons (λ (n : Measure). n.work) (measure m) rest);
      has = subst HasWork (sym with.worst) (chosen HasWork worse m old.worst has are.has);
      measures = All-tail IsMeasure (measure m) rest are.measures;
    }

-- the figures of all plans
pub record AreAll (whole : List Measure) (figures : Figures) (spent : ℕ) : Type 0 where
  pub below : figures.below ≡ are_within whole
  pub worst : measure figures.worst ≡ worst_of whole
  pub cheapest : figures.cheapest ≡ least_of (works_of whole)
  pub work : spent ≡ sum_by (λ m. m.work) whole

pub figures-end : (whole : List Measure) (figures : Figures) (spent : ℕ) → 1 ≤ length whole → spent < 2 ^ 128 → AreFigures whole [] figures spent
    → AreAll whole figures spent
figures-end [] figures spent some few are = absurd (omega (arith, some))
figures-end (m ∷ more) figures spent some few are =
    let none : is_worse (record { cost = 0; work = 1 }) (measure figures.worst) ≡ false = le-ltb _ _ (omega arith) in
    let first : worse_of (measure figures.worst) (record { cost = 0; work = 1 }) ≡ measure figures.worst = rw none refl in
    let sum = sum_by-cons (λ (n : Measure). n.work) m more in
    let least : least_of (works_of (m ∷ more)) ≤ m.work = least-first m.work (works_of more) in
    record {
      below = sym (and-true figures.below) ∙ are.below;
      worst = sym first ∙ are.worst;
      cheapest = omega (arith, are.cheapest, sum, least, are.work, few);
      work = omega (arith, are.work);
    }
