-- Plan order by its parts: it is total, and the numbers of one plan never begin those of another one.
use Rattle.std.proofs.Common.{◌≡◌, ◌↔◌, ℕ, List, [], ◌∷◌, ◌++◌, refl, sym, ap, ap₂, ◌∙◌, append_assoc, arith}
use Rattle.std.proofs.lemmas.Grind.{common_steps}
use Rattle.std.specs.Ordering.{nat_cmp, ordering_then}
use Rattle.std.specs.Cmp.{IsTotalOrder, tied_itself}
use Rattle.std.specs.Cmp.Lexicographic.{slice_cmp, on_texts}
use Rattle.std.proofs.lemmas.Cmp.{ranked}
use Rattle.std.specs.declared.cmp.Ordering.{Ordering}
use Rattle.std.specs.declared.cmp.Ordering.TheVariants.{Less, Equal, Greater}
use Rattle.plan_tree.specs.Plans.{PlanTree, Scan, IndexScan, Nest, Hash, Merge, IndexLoop, covers_of}
use Rattle.plan_tree.specs.Order.{node_numbers, plan_numbers, plan_order_of}
use Rattle.plan_tree.specs.Sides.{side_order}

pub total : IsTotalOrder plan_order_of
total = on_texts plan_numbers

then-assoc : (a b c : Ordering) → ordering_then (ordering_then a b) c ≡ ordering_then a (ordering_then b c)
then-assoc Less b c = refl
then-assoc Equal b c = refl
then-assoc Greater b c = refl

then-none : (a : Ordering) → ordering_then a Equal ≡ a
then-none Less = refl
then-none Equal = refl
then-none Greater = refl

behind-two : (a b c : Ordering) → ordering_then a (ordering_then b c) ≡ ordering_then (ordering_then a (ordering_then b Equal)) c
behind-two a b c = ap (λ o. ordering_then a (ordering_then o c)) (sym (then-none b)) ∙ sym (then-assoc a (ordering_then b Equal) c)

-- the numbers before the sides decide, then the left plans, then what is on the right
sides : (n : Ordering) (left left' right right' xs ys : List ℕ)
    → ((xs ys : List ℕ) → slice_cmp nat_cmp (left ++ xs) (left' ++ ys) ≡ ordering_then (slice_cmp nat_cmp left left') (slice_cmp nat_cmp xs ys))
    → ((xs ys : List ℕ) → slice_cmp nat_cmp (right ++ xs) (right' ++ ys) ≡ ordering_then (slice_cmp nat_cmp right right') (slice_cmp nat_cmp xs ys))
    → ordering_then n (slice_cmp nat_cmp ((left ++ right) ++ xs) ((left' ++ right') ++ ys))
    ≡ ordering_then (ordering_then n (slice_cmp nat_cmp (left ++ right) (left' ++ right'))) (slice_cmp nat_cmp xs ys)
sides n left left' right right' xs ys by-left by-right = grind (arith, common_steps, append_assoc, then-assoc)

one : (a b : ℕ) (xs ys : List ℕ) → slice_cmp nat_cmp ((a ∷ []) ++ xs) ((b ∷ []) ++ ys) ≡ ordering_then (slice_cmp nat_cmp (a ∷ []) (b ∷ [])) (slice_cmp nat_cmp xs ys)
one a b xs ys = ap (λ o. ordering_then o (slice_cmp nat_cmp xs ys)) (sym (then-none (nat_cmp a b)))

-- what follows the numbers of two plans counts only where the plans are equal
pub behind : (a b : PlanTree) (xs ys : List ℕ)
    → slice_cmp nat_cmp (plan_numbers a ++ xs) (plan_numbers b ++ ys) ≡ ordering_then (plan_order_of a b) (slice_cmp nat_cmp xs ys)
behind (Scan r) (Scan r') xs ys = ap (λ o. ordering_then o (slice_cmp nat_cmp xs ys)) (sym (then-none (nat_cmp r r')))
behind (IndexScan r c) (IndexScan r' c') xs ys = grind (arith, common_steps, then-none, then-assoc)
behind (Nest l r) (Nest l' r') xs ys =
    sides (nat_cmp (covers_of l) (covers_of l')) (plan_numbers l) (plan_numbers l') (plan_numbers r) (plan_numbers r') xs ys (behind l l') (behind r r')
behind (Hash e l r) (Hash e' l' r') xs ys = grind (arith, common_steps, sides, then-assoc, behind l l', behind r r')
behind (Merge e l r) (Merge e' l' r') xs ys = grind (arith, common_steps, sides, then-assoc, behind l l', behind r r')
behind (IndexLoop e l r) (IndexLoop e' l' r') xs ys = grind (arith, common_steps, sides, one, then-assoc, behind l l')
behind a b xs ys = refl

-- the outermost nodes decide, and then the sides
pub by-nodes : (a b : PlanTree) → plan_order_of a b ≡ ordering_then (slice_cmp nat_cmp (node_numbers a) (node_numbers b)) (side_order a b)
by-nodes (Scan r) (Scan r') = sym (then-none _)
by-nodes (IndexScan r c) (IndexScan r' c') = sym (then-none _)
by-nodes (Nest l r) (Nest l' r') = ap₂ ordering_then (sym (then-none (nat_cmp (covers_of l) (covers_of l')))) (behind l l' (plan_numbers r) (plan_numbers r'))
by-nodes (Hash e l r) (Hash e' l' r') = grind (arith, common_steps, behind, behind-two)
by-nodes (Merge e l r) (Merge e' l' r') = grind (arith, common_steps, behind, behind-two)
by-nodes (IndexLoop e l r) (IndexLoop e' l' r') = grind (arith, common_steps, behind, then-none, behind-two)
by-nodes a b = refl

then-equal : (n rest : Ordering) → n ≡ Equal → rest ≡ ordering_then n rest
then-equal n rest e = ap (λ o. ordering_then o rest) (sym e)

then-unequal : (n rest : Ordering) → (n ≡ Equal → ⊥) → n ≡ ordering_then n rest
then-unequal Less rest ne = refl
then-unequal Equal rest ne = absurd (ne refl)
then-unequal Greater rest ne = refl

pub where-equal : (a b : PlanTree) (n : Ordering) → n ≡ slice_cmp nat_cmp (node_numbers a) (node_numbers b) → n ≡ Equal → side_order a b ≡ plan_order_of a b
where-equal a b n is e = then-equal _ (side_order a b) (sym is ∙ e) ∙ sym (by-nodes a b)

pub where-unequal : (a b : PlanTree) (n : Ordering) → n ≡ slice_cmp nat_cmp (node_numbers a) (node_numbers b) → (n ≡ Equal → ⊥) → n ≡ plan_order_of a b
where-unequal a b n is ne = is ∙ then-unequal _ (side_order a b) (λ e. ne (is ∙ e)) ∙ sym (by-nodes a b)

left-equal : (a b : Ordering) → ordering_then a b ≡ Equal → a ≡ Equal
left-equal Less b e = e
left-equal Equal b e = refl
left-equal Greater b e = e

right-equal : (a b : Ordering) → ordering_then a b ≡ Equal → b ≡ Equal
right-equal Less b e = cc
right-equal Equal b e = e
right-equal Greater b e = cc

number : (a b : ℕ) → nat_cmp a b ≡ Equal → a ≡ b
number a b e = rw e at (ranked a b (nat_cmp a b) refl)

-- the numbers of the two sides of a join, where they are all equal
both : (left right left' right' : PlanTree) → slice_cmp nat_cmp (plan_numbers left ++ plan_numbers right) (plan_numbers left' ++ plan_numbers right') ≡ Equal
    → ordering_then (plan_order_of left left') (plan_order_of right right') ≡ Equal
both left right left' right' e = sym (behind left left' (plan_numbers right) (plan_numbers right')) ∙ e

same-plan : (a b : PlanTree) → plan_order_of a b ≡ Equal → a ≡ b
same-plan (Scan r) (Scan r') e = ap Scan (number r r' (left-equal _ _ e))
same-plan (IndexScan r c) (IndexScan r' c') e =
    ap₂ IndexScan (number r r' (left-equal _ _ e)) (number c c' (left-equal _ _ (right-equal _ _ e)))
same-plan (Nest l r) (Nest l' r') e =
    let sides = both l r l' r' (right-equal _ _ e) in
    ap₂ Nest (same-plan l l' (left-equal _ _ sides)) (same-plan r r' (right-equal _ _ sides))
same-plan (Hash n l r) (Hash n' l' r') e =
    let sides = both l r l' r' (right-equal _ _ (right-equal _ _ e)) in
    let edge = number n n' (left-equal _ _ e) in
    let left = same-plan l l' (left-equal _ _ sides) in
    let right = same-plan r r' (right-equal _ _ sides) in
    λ i. Hash (edge i) (left i) (right i)
same-plan (Merge n l r) (Merge n' l' r') e =
    let sides = both l r l' r' (right-equal _ _ (right-equal _ _ e)) in
    let edge = number n n' (left-equal _ _ e) in
    let left = same-plan l l' (left-equal _ _ sides) in
    let right = same-plan r r' (right-equal _ _ sides) in
    λ i. Merge (edge i) (left i) (right i)
same-plan (IndexLoop n l r) (IndexLoop n' l' r') e =
    let sides = sym (behind l l' (r ∷ []) (r' ∷ [])) ∙ right-equal _ _ (right-equal _ _ e) in
    let edge = number n n' (left-equal _ _ e) in
    let left = same-plan l l' (left-equal _ _ sides) in
    let right = number r r' (left-equal _ _ (right-equal _ _ sides)) in
    λ i. IndexLoop (edge i) (left i) (right i)
same-plan a b e = cc

pub same : (a b : PlanTree) → (plan_order_of a b ≡ Equal) ↔ (a ≡ b)
same a b = (same-plan a b, λ e. ap (plan_order_of a) (sym e) ∙ tied_itself total a)
