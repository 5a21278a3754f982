-- A list that ascends by its fronts, in which those that tie there are replaced by themselves in order, is in order.
use Rattle.std.proofs.Common.{◌≡◌, ◌≢◌, ℕ, zero, suc, ◌+◌, ◌<◌, Bool, true, false, List, [], ◌∷◌, length, get_or, map, sum_by, All, refl, sym, ap, ◌∙◌, arith}
use Rattle.std.proofs.lemmas.List.{length-map}
use Rattle.std.proofs.lemmas.List.Elements.{All-nil, All-cons, All-head, All-tail, All-weaker}
use Rattle.std.proofs.lemmas.List.Sums.{sum_by-cons}
use Rattle.std.specs.Cmp.{IsTotalOrder, upto}
use Rattle.std.specs.FinMap.{IsAntisymmetric}
use Rattle.std.specs.Ordering.{is_gt, ordering_reverse}
use Rattle.std.specs.declared.cmp.Ordering.{Ordering}
use Rattle.std.specs.declared.cmp.Ordering.TheVariants.{Less, Equal, Greater}
use Rattle.result_text.specs.Ties.{select, weave}
use Rattle.sql_values.proofs.Ascending.{IsUpto, Ascends, Ascends-map, ascending_determined}

-- what is put in the places of those that are marked, and what is taken from there
sum_by-weave : {X : Type 0} (f : X → ℕ) (marks : List Bool) (xs ys : List X) → length ys ≡ length (select marks xs) →
    sum_by f (weave marks xs ys) + sum_by f (select marks xs) ≡ sum_by f xs + sum_by f ys
sum_by-weave f [] xs [] long = refl
sum_by-weave f [] xs (y ∷ ys) long = absurd (omega arith)
sum_by-weave f (mark ∷ marks) [] [] long = refl
sum_by-weave f (mark ∷ marks) [] (y ∷ ys) long = absurd (omega arith)
sum_by-weave f (true ∷ marks) (x ∷ xs) [] long = absurd (omega arith)
sum_by-weave f (true ∷ marks) (x ∷ xs) (y ∷ ys) long =
    omega (arith, sum_by-cons f y (weave marks xs ys), sum_by-cons f x (select marks xs), sum_by-cons f x xs, sum_by-cons f y ys, sum_by-weave f marks xs ys (omega arith))
sum_by-weave f (false ∷ marks) (x ∷ xs) ys long =
    omega (arith, sum_by-cons f x (weave marks xs ys), sum_by-cons f x xs, sum_by-weave f marks xs ys long)

pub map-select : {X Y : Type 0} (f : X → Y) (marks : List Bool) (xs : List X) → map f (select marks xs) ≡ select marks (map f xs)
map-select f [] xs = refl
map-select f (mark ∷ marks) [] = refl
map-select f (true ∷ marks) (x ∷ xs) = ap (λ l. f x ∷ l) (map-select f marks xs)
map-select f (false ∷ marks) (x ∷ xs) = map-select f marks xs

pub map-weave : {X Y : Type 0} (f : X → Y) (marks : List Bool) (xs ys : List X) → map f (weave marks xs ys) ≡ weave marks (map f xs) (map f ys)
map-weave f [] xs ys = refl
map-weave f (mark ∷ marks) [] ys = refl
map-weave f (true ∷ marks) (x ∷ xs) [] = ap (λ l. f x ∷ l) (map-weave f marks xs [])
map-weave f (true ∷ marks) (x ∷ xs) (y ∷ ys) = ap (λ l. f y ∷ l) (map-weave f marks xs ys)
map-weave f (false ∷ marks) (x ∷ xs) ys = ap (λ l. f x ∷ l) (map-weave f marks xs ys)

pub All-select : {X : Type 0} (P : X → Type 0) (marks : List Bool) (xs : List X) → All P xs → All P (select marks xs)
All-select P [] xs all = All-nil P
All-select P (mark ∷ marks) [] all = All-nil P
All-select P (true ∷ marks) (x ∷ xs) all = All-cons P x (select marks xs) (All-head P x xs all) (All-select P marks xs (All-tail P x xs all))
All-select P (false ∷ marks) (x ∷ xs) all = All-select P marks xs (All-tail P x xs all)

pub All-weave : {X : Type 0} (P : X → Type 0) (marks : List Bool) (xs ys : List X) → All P xs → All P ys → All P (weave marks xs ys)
All-weave P [] xs ys all all' = all
All-weave P (mark ∷ marks) [] ys all all' = All-nil P
All-weave P (true ∷ marks) (x ∷ xs) [] all all' = All-cons P x (weave marks xs []) (All-head P x xs all) (All-weave P marks xs [] (All-tail P x xs all) all')
All-weave P (true ∷ marks) (x ∷ xs) (y ∷ ys) all all' = All-cons P y (weave marks xs ys) (All-head P y ys all') (All-weave P marks xs ys (All-tail P x xs all) (All-tail P y ys all'))
All-weave P (false ∷ marks) (x ∷ xs) ys all all' = All-cons P x (weave marks xs ys) (All-head P x xs all) (All-weave P marks xs ys (All-tail P x xs all) all')

strictly : (r : Ordering) → is_gt r ≡ false → r ≢ Equal → r ≡ Less
strictly Less upto differ = refl
strictly Equal upto differ = absurd (differ refl)
strictly Greater upto differ = absurd (cc)

sum_by-map : {X Y : Type 0} (f : Y → ℕ) (g : X → Y) (xs : List X) → sum_by f (map g xs) ≡ sum_by (λ x. f (g x)) xs
sum_by-map f g [] = refl
sum_by-map f g (x ∷ xs) = omega (arith, sum_by-cons f (g x) (map g xs), sum_by-cons (λ x. f (g x)) x xs, sum_by-map f g xs)

-- `front` is what is compared first: where the fronts of two differ, they decide
module _ {K : Type 0} (R : K → K → Ordering) (total : IsTotalOrder R) (exact : IsAntisymmetric R) (front : K → K)
    (decides : (x y : K) → R (front x) (front y) ≡ Less → R x y ≡ Less) where
  -- of two in turn with the same front both are marked
  abbrev pub MarksTies : List K → List Bool → Type 0
  MarksTies xs marks = (k : ℕ) (d : K) (e : Bool) → suc k < length xs → front (get_or xs k d) ≡ front (get_or xs (suc k) d) → (get_or marks k e ≡ true) × (get_or marks (suc k) e ≡ true)

  -- each is at most the next one
  abbrev Steps : List K → Type 0
  Steps [] = Unit {0}
  Steps (x ∷ []) = Unit {0}
  Steps (x ∷ y ∷ xs) = IsUpto R x y × Steps (y ∷ xs)

  Ascends-from_steps : (xs : List K) → Steps xs → Ascends R xs
  Ascends-from_steps [] steps = tt
  Ascends-from_steps (x ∷ []) steps = (All-nil (IsUpto R x), tt)
  Ascends-from_steps (x ∷ y ∷ xs) steps =
      let rest = Ascends-from_steps (y ∷ xs) steps.1 in
      (All-cons (IsUpto R x) y xs steps.0 (All-weaker (IsUpto R y) (IsUpto R x) (λ z. upto total x y z steps.0) xs rest.0), rest)

  Ascends-select : (marks : List Bool) (xs : List K) → Ascends R xs → Ascends R (select marks xs)
  Ascends-select [] xs up = tt
  Ascends-select (mark ∷ marks) [] up = tt
  Ascends-select (true ∷ marks) (x ∷ xs) up = (All-select (IsUpto R x) marks xs up.0, Ascends-select marks xs up.1)
  Ascends-select (false ∷ marks) (x ∷ xs) up = Ascends-select marks xs up.1

  -- the fronts ascend where all do
  pub fronts_upto : (x y : K) → IsUpto R x y → IsUpto R (front x) (front y)
  fronts_upto x y le =
      elim (R (front x) (front y)) as (λ r. R (front x) (front y) ≡ r → is_gt r ≡ false) [
        | Less ↦ λ e. refl
        | Equal ↦ λ e. refl
        | Greater ↦ λ e.
            let back : R (front y) (front x) ≡ Less = total.antisymm (front y) (front x) ∙ ap ordering_reverse e in
            let greater : R x y ≡ Greater = total.antisymm x y ∙ ap ordering_reverse (decides y x back) in
            sym (ap is_gt greater) ∙ le
      ] refl

  -- where the fronts differ, one that has the front of the first is less than one that has that of the second
  apart : (x y p q : K) → IsUpto R (front x) (front y) → front x ≢ front y → front p ≡ front x → front q ≡ front y → IsUpto R p q
  apart x y p q le differ first second =
      let less : R (front x) (front y) ≡ Less = strictly (R (front x) (front y)) le (λ tie. differ (exact (front x) (front y) tie)) in
      ap is_gt (decides p q ((λ i. R (first i) (second i)) ∙ less))

  -- p stands in the place of x, and the rest follows
  steps_from : (x p : K) (mark : Bool) (marks : List Bool) (xs ys : List K) → front p ≡ front x → length marks ≡ length xs →
      MarksTies (x ∷ xs) (mark ∷ marks) → Ascends R (map front (x ∷ xs)) → map front ys ≡ map front (select marks xs) → Ascends R ys → (mark ≡ true → All (IsUpto R p) ys) →
      Steps (p ∷ weave marks xs ys)
  steps_from x p mark [] [] ys here long marked up same ordered least = tt
  steps_from x p mark [] (y ∷ xs) ys here long marked up same ordered least = absurd (omega arith)
  steps_from x p mark (next ∷ marks) [] ys here long marked up same ordered least = absurd (omega arith)
  steps_from x p mark (false ∷ marks) (y ∷ xs) ys here long marked up same ordered least =
      let differ : front x ≢ front y = λ tie. let never : false ≡ true = (marked zero x false (omega arith) tie).1 in cc never in (
        apart x y p y (All-head (IsUpto R (front x)) (front y) (map front xs) up.0) differ here refl,
        steps_from y y false marks xs ys refl (omega arith) (λ k d e inside. marked (suc k) d e (omega arith)) up.1 same ordered (λ never. cc never),
      )
  steps_from x p mark (true ∷ marks) (y ∷ xs) [] here long marked up same ordered least = absurd (cc same)
  steps_from x p mark (true ∷ marks) (y ∷ xs) (z ∷ ys) here long marked up same ordered least =
      let front_of : front z ≡ front y = cc in
      let rest : map front ys ≡ map front (select marks xs) = cc in
      let step : IsUpto R p z = elim mark as (λ b. mark ≡ b → IsUpto R p z) [
        | true ↦ λ e. All-head (IsUpto R p) z ys (least e)
        | false ↦ λ e.
            let differ : front x ≢ front y = λ tie. let never : mark ≡ true = (marked zero x false (omega arith) tie).0 in cc in
            apart x y p z (All-head (IsUpto R (front x)) (front y) (map front xs) up.0) differ here front_of
      ] refl in
      (step, steps_from y z true marks xs ys front_of (omega arith) (λ k d e inside. marked (suc k) d e (omega arith)) up.1 rest ordered.1 (λ _. ordered.0))

  steps_woven : (marks : List Bool) (xs ys : List K) → length marks ≡ length xs → MarksTies xs marks → Ascends R (map front xs) → map front ys ≡ map front (select marks xs) → Ascends R ys → Steps (weave marks xs ys)
  steps_woven [] [] ys long marked up same ordered = tt
  steps_woven [] (x ∷ xs) ys long marked up same ordered = absurd (omega arith)
  steps_woven (mark ∷ marks) [] ys long marked up same ordered = absurd (omega arith)
  steps_woven (false ∷ marks) (x ∷ xs) ys long marked up same ordered = steps_from x x false marks xs ys refl (omega arith) marked up same ordered (λ never. cc never)
  steps_woven (true ∷ marks) (x ∷ xs) [] long marked up same ordered = absurd (cc same)
  steps_woven (true ∷ marks) (x ∷ xs) (y ∷ ys) long marked up same ordered =
      let front_of : front y ≡ front x = cc in
      let rest : map front ys ≡ map front (select marks xs) = cc in
      steps_from x y true marks xs ys front_of (omega arith) marked up rest ordered.1 (λ _. ordered.0)

  -- those that are marked, in order and put back, leave all in order
  pub woven : (marks : List Bool) (xs ys : List K) → length marks ≡ length xs → MarksTies xs marks → Ascends R (map front xs) →
      Ascends R ys → ((f : K → ℕ) → sum_by f ys ≡ sum_by f (select marks xs)) →
      Ascends R (weave marks xs ys) × ((f : K → ℕ) → sum_by f (weave marks xs ys) ≡ sum_by f xs)
  woven marks xs ys long marked up ordered same =
      let fronts : map front ys ≡ map front (select marks xs) = ascending_determined R total exact (map front ys) (map front (select marks xs))
      (Ascends-map R R front (λ _. Unit {0}) (λ x y _ _. fronts_upto x y) ys ordered (λ k d inside. tt))
      (subst_fronts marks xs up)
      (λ f. sum_by-map f front (select marks xs) ∙ sym (same (λ x. f (front x))) ∙ sym (sum_by-map f front ys)) in
      let many : length ys ≡ length (select marks xs) = sym (length-map ys front) ∙ ap length fronts ∙ length-map (select marks xs) front in
      (Ascends-from_steps (weave marks xs ys) (steps_woven marks xs ys long marked up fronts ordered), λ f. omega (arith, sum_by-weave f marks xs ys many, same f))
    where
      subst_fronts : (marks : List Bool) (xs : List K) → Ascends R (map front xs) → Ascends R (map front (select marks xs))
      subst_fronts marks xs up = rw (map-select front marks xs) (Ascends-select marks (map front xs) up)
