-- Lists in ascending order by a relation: each item is before all later ones.
use Rattle.std.proofs.Common.{◌≡◌, ℕ, zero, suc, ◌+◌, ◌<◌, inl, inr, Bool, List, [], ◌∷◌, ◌++◌, length, map, filter, refl, subst, arith}
use Rattle.std.proofs.lemmas.Grind.{common_steps}
use Rattle.std.specs.Prelude.{slice_index_or}
use Rattle.std.specs.List.{flat_map, range_with_len, AllPairs}
use Rattle.plan_tree.proofs.Members.{IsIn, of-either, of-filter, of-flat, of-map, of-range}

abbrev pub Ascends : {X : Type 0} → (X → X → Type 0) → List X → Type 0
Ascends Before [] = Unit
Ascends Before (x ∷ xs) = ((y : _) → IsIn y xs → Before x y) × Ascends Before xs

-- all items of one list are before all of another
abbrev pub AllBefore : {X : Type 0} → (X → X → Type 0) → List X → List X → Type 0
AllBefore {X} Before xs ys = (x y : X) → IsIn x xs → IsIn y ys → Before x y

pub between : {X : Type 0} (Before : X → X → Type 0) (x y : X) {x' y' : X} → x ≡ x' → y ≡ y' → Before x y → Before x' y'
between Before x y {x' = x'} {y' = y'} one other before = subst (λ a. Before a y') one (subst (Before x) other before)

at-in : {X : Type 0} (xs : List X) (k : ℕ) (d : X) → k < length xs → IsIn (slice_index_or xs k d) xs
at-in [] k d below = absurd (omega (arith, below))
at-in (x ∷ xs) zero d below = inl refl
at-in (x ∷ xs) (suc k) d below = inr (at-in xs k d (omega (arith, below)))

pub ascending-pairs : {X : Type 0} (Before : X → X → Type 0) (xs : List X) → Ascends Before xs → AllPairs Before xs
ascending-pairs Before [] ascends i j d less within = absurd (omega (arith, within))
ascending-pairs Before (x ∷ xs) ascends i zero d less within = absurd (omega (arith, less))
ascending-pairs Before (x ∷ xs) (first, more) zero (suc j) d less within =
    first (slice_index_or xs j d) (at-in xs j d (omega (arith, within)))
ascending-pairs Before (x ∷ xs) (first, more) (suc i) (suc j) d less within =
    ascending-pairs Before xs more i j d (omega (arith, less)) (omega (arith, within))

pub ascending-both : {X : Type 0} (Before : X → X → Type 0) (xs ys : List X)
    → Ascends Before xs → Ascends Before ys → AllBefore Before xs ys → Ascends Before (xs ++ ys)
ascending-both Before [] ys one other apart = other
ascending-both Before (x ∷ xs) ys (first, more) other apart = (
  λ y is. elim (of-either y xs ys is) [ inl here ↦ first y here | inr there ↦ apart x y (inl refl) there ],
  ascending-both Before xs ys more other (λ a b here there. apart a b (inr here) there),
)

-- lists one after another, each of one item of an ascending list
pub ascending-flat : {X Y : Type 0} (First : X → X → Type 0) (Before : Y → Y → Type 0) (f : X → List Y) (xs : List X) → Ascends First xs
    → ((x : X) → IsIn x xs → Ascends Before (f x))
    → ((a b : X) → IsIn a xs → IsIn b xs → First a b → AllBefore Before (f a) (f b)) → Ascends Before (flat_map f xs)
ascending-flat First Before f [] ascends each apart = tt
ascending-flat First Before f (x ∷ xs) (first, more) each apart =
    ascending-both Before (f x) (flat_map f xs) (each x (inl refl))
    (ascending-flat First Before f xs more (λ a is. each a (inr is)) (λ a b here there. apart a b (inr here) (inr there)))
    (λ y z here there.
    let found = of-flat f z xs there in
    apart x found.0 (inl refl) (inr found.1) (first found.0 found.1) y z here found.2)

pub ascending-map : {X Y : Type 0} (First : X → X → Type 0) (Before : Y → Y → Type 0) (f : X → Y) (xs : List X) → Ascends First xs
    → ((a b : X) → IsIn a xs → IsIn b xs → First a b → Before (f a) (f b)) → Ascends Before (map f xs)
ascending-map First Before f [] ascends each = tt
ascending-map First Before f (x ∷ xs) (first, more) each = (
  λ z is. let found = of-map f z xs is in subst (Before (f x)) found.2 (each x found.0 (inl refl) (inr found.1) (first found.0 found.1)),
  ascending-map First Before f xs more (λ a b here there. each a b (inr here) (inr there)),
)

pub ascending-range : (a n : ℕ) → Ascends (λ i j. i < j) (range_with_len a n)
ascending-range a zero = tt
ascending-range a (suc n) = (
  λ j is. let range = of-range j (a + 1) n is in omega (arith, range.0),
  ascending-range (a + 1) n,
)

-- some items of an ascending list
pub ascending-filter : {X : Type 0} (Before : X → X → Type 0) (test : X → Bool) (xs : List X) → Ascends Before xs → Ascends Before (filter test xs)
ascending-filter Before test [] ascends = tt
ascending-filter Before test (x ∷ xs) (first, more) =
    grind (arith, common_steps, of-filter, ascending-filter Before test xs more)
