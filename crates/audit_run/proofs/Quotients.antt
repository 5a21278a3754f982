-- How the quotients of cost by work compare.
use Rattle.std.proofs.Common.{◌≡◌, ◌≢◌, ◌∙◌, inl, inr, ℕ, ◌+◌, ◌*◌, ◌/◌, ◌%◌, ◌<◌, ◌≤◌, true, false, nat_lt, if◌then◌else◌, refl, sym, ap, arith}
use Rattle.std.proofs.Math.Nat.{mul-le-mul_left, le_of_mul-le-mul_left, lt_of_mul-lt-mul_left, mul-lt-mul_of_pos_left, lt-mul-div-succ, mul-div-le}
use Rattle.std.proofs.lemmas.Nat.{div-add-mod'}
use Rattle.std.proofs.lemmas.Bool.{cases_lt, lt-ltb, le-ltb}
use Rattle.audit_run.specs.Measures.{Measure, is_worse}

-- no quotient greater than that of the second
abbrev pub IsNoWorse : Measure → Measure → Type 0
IsNoWorse m other = m.cost * other.work ≤ other.cost * m.work

abbrev pub IsWorse : Measure → Measure → Type 0
IsWorse m other = other.cost * m.work < m.cost * other.work

pub no_worse-then : (m n k : Measure) → 1 ≤ n.work → IsNoWorse m n → IsNoWorse n k → IsNoWorse m k
no_worse-then m n k some first next =
    let one : k.work * (m.cost * n.work) ≤ k.work * (n.cost * m.work) = mul-le-mul_left k.work first in
    let two : m.work * (n.cost * k.work) ≤ m.work * (k.cost * n.work) = mul-le-mul_left m.work next in
    let both : n.work * (m.cost * k.work) ≤ n.work * (k.cost * m.work) = omega (arith, one, two) in
    le_of_mul-le-mul_left both some

pub worse-then : (m n k : Measure) → 1 ≤ k.work → IsWorse m n → IsWorse n k → IsWorse m k
worse-then m n k some first next =
    let one : k.work * (n.cost * m.work) < k.work * (m.cost * n.work) = mul-lt-mul_of_pos_left first some in
    let two : m.work * (k.cost * n.work) ≤ m.work * (n.cost * k.work) = mul-le-mul_left m.work (omega (arith, next)) in
    let both : n.work * (k.cost * m.work) < n.work * (m.cost * k.work) = omega (arith, one, two) in
    lt_of_mul-lt-mul_left n.work both

-- the second where it is worse, else the first
abbrev pub worse_of : Measure → Measure → Measure
worse_of m other = if is_worse other m then other else m

pub worse-second : (m other : Measure) → IsWorse other m → worse_of m other ≡ other
worse-second m other worse =
    let test : is_worse other m ≡ true = lt-ltb _ _ worse in
    rw test refl

pub worse-first : (m other : Measure) → IsNoWorse other m → worse_of m other ≡ m
worse-first m other none =
    let test : is_worse other m ≡ false = le-ltb _ _ none in
    rw test refl

-- it is the same in which order three are taken together
pub worse_of-assoc : (m n k : Measure) → 1 ≤ m.work → 1 ≤ n.work → worse_of (worse_of m n) k ≡ worse_of m (worse_of n k)
worse_of-assoc m n k some some' =
    elim (cases_lt (m.cost * n.work) (n.cost * m.work)) [
      | inl second ↦ elim (cases_lt (n.cost * k.work) (k.cost * n.work)) [
        | inl third ↦
            rw (worse-second m n second, worse-second n k third)
            (sym (worse-second m k (worse-then k n m some third second)))
        | inr last ↦ rw (worse-second m n second, worse-first n k last) (sym (worse-second m n second))
      ]
      | inr first ↦ elim (cases_lt (n.cost * k.work) (k.cost * n.work)) [
        | inl third ↦ rw (worse-first m n first, worse-second n k third) refl
        | inr last ↦
            rw (worse-first m n first, worse-first n k last)
            (worse-first m k (no_worse-then k n m some' last first) ∙ sym (worse-first m n first))
      ]
    ]

-- a greater whole part is that of a greater quotient
by-whole : (m other : Measure) → 1 ≤ m.work → 1 ≤ other.work → other.cost / other.work < m.cost / m.work → IsWorse m other
by-whole m other some some' less =
    let over : other.cost < other.work * (other.cost / other.work + 1) = omega (arith, lt-mul-div-succ other.cost some') in
    let under : m.work * (m.cost / m.work) ≤ m.cost = mul-div-le m.cost m.work in
    let one : m.work * other.cost < m.work * (other.work * (other.cost / other.work + 1)) = mul-lt-mul_of_pos_left over some in
    let two : other.work * (m.work * (m.cost / m.work)) ≤ other.work * m.cost = mul-le-mul_left other.work under in
    let next : other.cost / other.work + 1 ≤ m.cost / m.work = omega (arith, less) in
    let three : m.work * other.work * (other.cost / other.work + 1) ≤ m.work * other.work * (m.cost / m.work) =
    mul-le-mul_left (m.work * other.work) next in
    omega (arith, one, two, three)

-- so of different whole parts the greater one tells
pub whole_tells : (m other : Measure) → 1 ≤ m.work → 1 ≤ other.work → m.cost / m.work ≢ other.cost / other.work
    → nat_lt (other.cost / other.work) (m.cost / m.work) ≡ is_worse m other
whole_tells m other some some' differ =
    elim (cases_lt (other.cost / other.work) (m.cost / m.work)) [
      | inl less ↦
          let one : nat_lt (other.cost / other.work) (m.cost / m.work) ≡ true = lt-ltb _ _ less in
          let two : is_worse m other ≡ true = lt-ltb _ _ (by-whole m other some some' less) in
          one ∙ sym two
      | inr most ↦
          let past : m.cost / m.work < other.cost / other.work = omega (arith, most, differ) in
          let one : nat_lt (other.cost / other.work) (m.cost / m.work) ≡ false = le-ltb _ _ most in
          let two : is_worse m other ≡ false = le-ltb _ _ (omega (arith, by-whole other m some' some past)) in
          one ∙ sym two
    ]

-- a product by the quotient's whole part and what remains
parts : (cost work times : ℕ) → cost * times ≡ times * work * (cost / work) + cost % work * times
parts cost work times =
    let whole : times * (cost / work * work + cost % work) ≡ times * cost = ap (λ n. times * n) (div-add-mod' cost work) in
    omega (arith, whole)

-- of equal whole parts what remains tells
pub remains_tell : (m other : Measure) → m.cost / m.work ≡ other.cost / other.work
    → nat_lt (other.cost % other.work * m.work) (m.cost % m.work * other.work) ≡ is_worse m other
remains_tell m other same =
    let one = parts m.cost m.work other.work in
    let two = parts other.cost other.work m.work in
    let equal : other.work * m.work * (m.cost / m.work) ≡ other.work * m.work * (other.cost / other.work) =
    ap (λ n. other.work * m.work * n) same in
    elim (cases_lt (other.cost * m.work) (m.cost * other.work)) [
      | inl less ↦
          let test : is_worse m other ≡ true = lt-ltb _ _ less in
          lt-ltb _ _ (omega (arith, one, two, equal, less)) ∙ sym test
      | inr most ↦
          let test : is_worse m other ≡ false = le-ltb _ _ most in
          le-ltb _ _ (omega (arith, one, two, equal, most)) ∙ sym test
    ]
