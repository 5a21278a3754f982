-- Rows that are put in order ascend, and are the same rows.
use Rattle.std.proofs.Common.{All, ◌≡◌, ℕ, ◌+◌, true, false, cond, List, [], ◌∷◌, sum_by, refl, sym, ap, ◌∙◌, arith}
use Rattle.std.proofs.lemmas.List.Elements.{All-nil, All-cons, All-head, All-tail, All-weaker}
use Rattle.std.proofs.lemmas.List.Sums.{sum_by-cons}
use Rattle.std.proofs.lemmas.List.Sorted.{sum_by-IsPermutation, IsPermutation-refl, IsPermutation-cons, IsPermutation-swap, IsPermutation-trans}
use Rattle.std.specs.List.Sorted.{IsPermutation, IsSorted}
use Rattle.std.specs.Cmp.{IsTotalOrder, upto}
use Rattle.std.specs.Cmp.Lexicographic.{lists_total}
use Rattle.std.specs.FinMap.{IsAntisymmetric, slice_cmp-IsAntisymmetric}
use Rattle.std.specs.Ordering.{is_gt, ordering_reverse}
use Rattle.std.specs.declared.cmp.Ordering.{Ordering}
use Rattle.std.specs.declared.cmp.Ordering.TheVariants.{Less, Equal, Greater}
use Rattle.sql_values.specs.Stored.{ValueRow}
use Rattle.sql_values.proofs.ValueOrder.{total, same}
use Rattle.result_text.specs.Order.{row_cmp, put_in_order, in_order}
use Rattle.sql_values.proofs.Ascending.{IsUpto, Ascends, IsSorted-from_ascends, ascending_determined}

pub rows_total : IsTotalOrder row_cmp
rows_total = lists_total total

pub rows_antisymmetric : IsAntisymmetric row_cmp
rows_antisymmetric = slice_cmp-IsAntisymmetric (λ a b e. (same a b).0 e)

-- a row that is put into its place stands after the first one or before it
put_cases : (P : List ValueRow → Type 0) (row first : ValueRow) (rest : List ValueRow) →
    (is_gt (row_cmp row first) ≡ true → P (first ∷ put_in_order row rest)) → (is_gt (row_cmp row first) ≡ false → P (row ∷ first ∷ rest)) → P (put_in_order row (first ∷ rest))
put_cases P row first rest after before =
    elim (is_gt (row_cmp row first)) as (λ b. is_gt (row_cmp row first) ≡ b → P (cond b (first ∷ put_in_order row rest) (row ∷ first ∷ rest))) [
      | true ↦ λ e. after e
      | false ↦ λ e. before e
    ] refl

sum_by-put_in_order : (f : ValueRow → ℕ) (row : ValueRow) (rows : List ValueRow) → sum_by f (put_in_order row rows) ≡ f row + sum_by f rows
sum_by-put_in_order f row [] = sum_by-cons f row []
sum_by-put_in_order f row (first ∷ rest) =
    put_cases (λ rows. sum_by f rows ≡ f row + sum_by f (first ∷ rest)) row first rest
    (λ _. omega (arith, sum_by-cons f first (put_in_order row rest), sum_by-cons f first rest, sum_by-put_in_order f row rest))
    (λ _. sum_by-cons f row (first ∷ rest))

pub sum_by-in_order : (f : ValueRow → ℕ) (rows : List ValueRow) → sum_by f (in_order rows) ≡ sum_by f rows
sum_by-in_order f [] = refl
sum_by-in_order f (row ∷ rows) = omega (arith, sum_by-put_in_order f row (in_order rows), sum_by-cons f row rows, sum_by-in_order f rows)

All-put_in_order : (P : ValueRow → Type 0) (row : ValueRow) (rows : List ValueRow) → P row → All P rows → All P (put_in_order row rows)
All-put_in_order P row [] one all = All-cons P row [] one all
All-put_in_order P row (first ∷ rest) one all =
    put_cases (All P) row first rest
    (λ _. All-cons P first (put_in_order row rest) (All-head P first rest all) (All-put_in_order P row rest one (All-tail P first rest all)))
    (λ _. All-cons P row (first ∷ rest) one all)

not_both : (r : Ordering) → is_gt r ≡ true → is_gt (ordering_reverse r) ≡ false
not_both Less e = absurd (cc)
not_both Equal e = absurd (cc)
not_both Greater e = refl

Ascends-put_in_order : (row : ValueRow) (rows : List ValueRow) → Ascends row_cmp rows → Ascends row_cmp (put_in_order row rows)
Ascends-put_in_order row [] up = (All-nil (IsUpto row_cmp row), tt)
Ascends-put_in_order row (first ∷ rest) up =
    put_cases (Ascends row_cmp) row first rest
    (λ greater.
    let less : IsUpto row_cmp first row = ap is_gt (rows_total.antisymm first row) ∙ not_both (row_cmp row first) greater in
    (All-put_in_order (IsUpto row_cmp first) row rest less up.0, Ascends-put_in_order row rest up.1))
    (λ here.
    let later : All (IsUpto row_cmp row) rest = All-weaker (IsUpto row_cmp first) (IsUpto row_cmp row) (λ other. upto rows_total row first other here) rest up.0 in
    (All-cons (IsUpto row_cmp row) first rest here later, up))

pub Ascends-in_order : (rows : List ValueRow) → Ascends row_cmp (in_order rows)
Ascends-in_order [] = tt
Ascends-in_order (row ∷ rows) = Ascends-put_in_order row (in_order rows) (Ascends-in_order rows)

-- rows that ascend, of which each stands there as often as among others, are those in order
pub in_order-from_ascends : (rows sorted : List ValueRow) → Ascends row_cmp sorted → ((f : ValueRow → ℕ) → sum_by f sorted ≡ sum_by f rows) → sorted ≡ in_order rows
in_order-from_ascends rows sorted up each =
    ascending_determined row_cmp rows_total rows_antisymmetric sorted (in_order rows) up (Ascends-in_order rows) (λ f. sum_by-in_order f rows ∙ sym (each f))

-- the order doesn't depend on how rows stood before
pub in_order-permutation : (rows others : List ValueRow) → IsPermutation rows others → in_order others ≡ in_order rows
in_order-permutation rows others moved =
    in_order-from_ascends rows (in_order others) (Ascends-in_order others) (λ f. sum_by-in_order f others ∙ sum_by-IsPermutation f rows others moved)

IsPermutation-put_in_order : (row : ValueRow) (rows : List ValueRow) → IsPermutation (row ∷ rows) (put_in_order row rows)
IsPermutation-put_in_order row [] = IsPermutation-refl (row ∷ [])
IsPermutation-put_in_order row (first ∷ rest) =
    put_cases (IsPermutation (row ∷ first ∷ rest)) row first rest
    (λ _.
    let swapped = IsPermutation-swap (row ∷ first ∷ rest) (first ∷ row ∷ rest) 0 1 (omega arith) (omega arith) refl in
    IsPermutation-trans (row ∷ first ∷ rest) (first ∷ row ∷ rest) (first ∷ put_in_order row rest) swapped (IsPermutation-cons first (row ∷ rest) (put_in_order row rest) (IsPermutation-put_in_order row rest)))
    (λ _. IsPermutation-refl (row ∷ first ∷ rest))

-- the rows in order are the rows
pub IsPermutation-in_order : (rows : List ValueRow) → IsPermutation rows (in_order rows)
IsPermutation-in_order [] = IsPermutation-refl []
IsPermutation-in_order (row ∷ rows) =
    IsPermutation-trans (row ∷ rows) (row ∷ in_order rows) (put_in_order row (in_order rows)) (IsPermutation-cons row rows (in_order rows) (IsPermutation-in_order rows)) (IsPermutation-put_in_order row (in_order rows))

-- and they ascend
pub IsSorted-in_order : (rows : List ValueRow) → IsSorted row_cmp (in_order rows)
IsSorted-in_order rows = IsSorted-from_ascends row_cmp rows_total (in_order rows) (Ascends-in_order rows)
