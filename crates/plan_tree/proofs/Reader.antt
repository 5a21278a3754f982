-- The reader of texts of plans: what it reads is the text of a plan, and the text of each plan is read.
use Rattle.std.proofs.Common.{◌≡◌, ℕ, zero, suc, ◌+◌, ◌-◌, ◌*◌, ◌/◌, ◌%◌, ◌≤◌, ◌<◌, Bool, true, false, cond, ◌&&◌, List, [], ◌∷◌, ◌++◌, length, Option, Some, None, refl, sym, ap, subst, ◌∙◌, inl, inr, append_assoc, append-nil, length-append, arith}
use Rattle.std.proofs.lemmas.Grind.{common_steps}
use Rattle.std.specs.Prelude.{decimal, nat_le, nat_eq}
use Rattle.std.proofs.lemmas.Bool.{eqb-true, cases_lt}
use Rattle.std.proofs.lemmas.Bool.Decides.{nat_tests}
use Rattle.std.proofs.lemmas.Fmt.{decimal_digit}
use Rattle.itoa.proofs.Decimal.{decimal_two}
use Rattle.plan_tree.specs.Plans.{PlanTree, Scan, IndexScan, Nest, Hash, Merge, IndexLoop, leaves_of}
use Rattle.plan_tree.specs.Text.{sides_text, plan_text_of}
use Rattle.plan_tree.specs.Reading.{HasQueryNumbers, HasText}
use Rattle.plan_tree.specs.Reader.{TextReader, ◌>>=◌, after, digit_at, with_second, column_number_at, scan_at, index_scan_at, closed_at, sides_at, nest_at, join_at, plan_node_of, plan_tree_at}

digit-first : (most digit : ℕ) (rest : List ℕ) → digit ≤ most → digit_at most ((48 + digit) ∷ rest) ≡ Some (digit, rest)
unfolding digit_at
digit-first most digit rest few = grind (arith, nat_tests)

-- a digit before anything is read
digit-again : (most n : ℕ) (rest : List ℕ) → n ≤ most → most ≤ 9 → digit_at most (decimal n ++ rest) ≡ Some (n, rest)
digit-again most n rest few digits = rw (decimal_digit n (omega (arith, few, digits))) (digit-first most n rest few)

-- no digit follows
abbrev NoDigit : List ℕ → Type 0
NoDigit rest = digit_at 9 rest ≡ None

-- a number of two digits
record IsPair (n tens ones : ℕ) : Type 0 where
  first : tens ≤ 9
  second : ones ≤ 9
  is : 10 * tens + ones ≡ n
  text : decimal n ≡ (48 + tens) ∷ (48 + ones) ∷ []

is-pair : (n : ℕ) → 10 ≤ n → n ≤ 31 → IsPair n (n / 10) (n % 10)
is-pair n low high = grind (arith, common_steps, decimal_two)

pair-again : (n tens ones : ℕ) (rest : List ℕ) → 10 ≤ n → n ≤ 31 → IsPair n tens ones → column_number_at (decimal n ++ rest) ≡ Some (n, rest)
unfolding column_number_at with_second
pair-again n tens ones rest low high pair =
    rw (pair.text, digit-first 9 tens ((48 + ones) ∷ rest) pair.first, digit-first 9 ones rest pair.second, pair.is) (grind (arith, nat_tests, low, high))

column-again : (n : ℕ) (rest : List ℕ) → n ≤ 31 → NoDigit rest → column_number_at (decimal n ++ rest) ≡ Some (n, rest)
unfolding column_number_at with_second
column-again n rest few follows = elim (cases_lt n 10) [
  | inl less ↦ rw (decimal_digit n less, digit-first 9 n rest (omega (arith, less)), follows) refl
  | inr more ↦ pair-again n (n / 10) (n % 10) rest more few (is-pair n more few)
]

-- a reader reads a text before anything that begins with no digit
abbrev IsReadAgain : {A : Type 0} → TextReader A → List ℕ → A → Type 0
IsReadAgain read text x = (rest : List ℕ) → NoDigit rest → read (text ++ rest) ≡ Some (x, rest)

closed-again : {A : Type 0} (read : TextReader A) (text : List ℕ) (x : A) (sign : ℕ) (rest : List ℕ) → IsReadAgain read text x
    → NoDigit (sign ∷ rest) → closed_at read sign (text ++ sign ∷ rest) ≡ Some (x, rest)
unfolding closed_at after
closed-again read text x sign rest again follows = rw (again (sign ∷ rest) follows) (grind (arith, nat_tests))

-- the text of two sides before anything
sides-before : (l r rest : List ℕ) → sides_text l r ++ rest ≡ 40 ∷ (l ++ 44 ∷ (r ++ 41 ∷ rest))
sides-before l r rest = simp append_assoc

sides-again : {B : Type 0} (side : TextReader PlanTree) (other : TextReader B) (l r : List ℕ) (x : PlanTree) (y : B) (rest : List ℕ) → IsReadAgain side l x
    → IsReadAgain other r y → sides_at side other (sides_text l r ++ rest) ≡ Some ((x, y), rest)
unfolding sides_at after digit_at
sides-again side other l r x y rest first second =
    ap (sides_at side other) (sides-before l r rest) ∙ rw (closed-again side l x 44 (r ++ 41 ∷ rest) first refl, closed-again other r y 41 rest second refl) refl

join-again : {B : Type 0} (node : ℕ → PlanTree → B → PlanTree) (side : TextReader PlanTree) (other : TextReader B) (edge : ℕ) (l r : List ℕ) (x : PlanTree) (y : B)
    → edge ≤ 5 → IsReadAgain side l x → IsReadAgain other r y → IsReadAgain (join_at node side other) (decimal edge ++ sides_text l r) (node edge x y)
unfolding join_at
join-again node side other edge l r x y few first second rest follows =
    rw (append_assoc (decimal edge) (sides_text l r) rest, digit-again 5 edge (sides_text l r ++ rest) few (omega arith), sides-again side other l r x y rest first second) refl

relation-again : (relation : ℕ) → relation ≤ 5 → IsReadAgain (digit_at 5) (decimal relation) relation
relation-again relation few rest follows = digit-again 5 relation rest few (omega arith)

leaves-some : (p : PlanTree) → 0 < length (leaves_of p)
leaves-some (Scan relation) = omega arith
leaves-some (IndexScan relation column) = omega arith
leaves-some (Nest left right) = omega (arith, leaves-some left, length-append (leaves_of left) (leaves_of right))
leaves-some (Hash edge left right) = omega (arith, leaves-some left, length-append (leaves_of left) (leaves_of right))
leaves-some (Merge edge left right) = omega (arith, leaves-some left, length-append (leaves_of left) (leaves_of right))
leaves-some (IndexLoop edge left relation) = omega (arith, leaves-some left, length-append (leaves_of left) (relation ∷ []))

-- a side has fewer leaves
fewer-left : (left right : PlanTree) (levels : ℕ) → length (leaves_of left ++ leaves_of right) ≤ suc levels → length (leaves_of left) ≤ levels
fewer-left left right levels few = omega (arith, few, leaves-some right, length-append (leaves_of left) (leaves_of right))

fewer-right : (left right : PlanTree) (levels : ℕ) → length (leaves_of left ++ leaves_of right) ≤ suc levels → length (leaves_of right) ≤ levels
fewer-right left right levels few = omega (arith, few, leaves-some left, length-append (leaves_of left) (leaves_of right))

-- the text of an index scan's numbers before anything
numbers-before : (a b rest : List ℕ) → ((a ++ 46 ∷ []) ++ b) ++ rest ≡ a ++ 46 ∷ (b ++ rest)
numbers-before a b rest = simp append_assoc

-- the text of each plan of so many leaves is read
pub plan-again : (levels : ℕ) (p : PlanTree) → length (leaves_of p) ≤ levels → HasQueryNumbers p → IsReadAgain (plan_tree_at levels) (plan_text_of p) p
unfolding plan_tree_at plan_node_of scan_at index_scan_at nest_at after
plan-again zero p few numbers rest follows = absurd (omega (arith, few, leaves-some p))
plan-again (suc levels) (Scan relation) few numbers rest follows = rw (relation-again relation numbers rest follows) refl
plan-again (suc levels) (IndexScan relation column) few numbers rest follows =
    grind (arith, common_steps, numbers-before, digit-again, column-again)
plan-again (suc levels) (Nest left right) few numbers rest follows =
    rw (sides-again (plan_tree_at levels) (plan_tree_at levels) (plan_text_of left) (plan_text_of right) left right rest (plan-again levels left (fewer-left left right levels few) numbers.0) (plan-again levels right (fewer-right left right levels few) numbers.1)) refl
plan-again (suc levels) (Hash edge left right) few numbers rest follows =
    join-again Hash (plan_tree_at levels) (plan_tree_at levels) edge (plan_text_of left) (plan_text_of right) left right numbers.0
    (plan-again levels left (fewer-left left right levels few) numbers.1) (plan-again levels right (fewer-right left right levels few) numbers.2) rest follows
plan-again (suc levels) (Merge edge left right) few numbers rest follows =
    join-again Merge (plan_tree_at levels) (plan_tree_at levels) edge (plan_text_of left) (plan_text_of right) left right numbers.0
    (plan-again levels left (fewer-left left right levels few) numbers.1) (plan-again levels right (fewer-right left right levels few) numbers.2) rest follows
plan-again (suc levels) (IndexLoop edge left relation) few numbers rest follows =
    join-again IndexLoop (plan_tree_at levels) (digit_at 5) edge (plan_text_of left) (decimal relation) left relation numbers.0
    (plan-again levels left (fewer-left left (Scan relation) levels few) numbers.1) (relation-again relation numbers.2) rest follows

-- where there is a value, this holds of it
abbrev IfFound : {A : Type 0} → (A → Type 0) → Option A → Type 0
IfFound P None = Unit {0}
IfFound P (Some x) = P x

then_found : {A B : Type 0} (Q : A → Type 0) (P : B → Type 0) (o : Option A) (f : A → Option B) → IfFound Q o → ((x : A) → Q x → IfFound P (f x)) → IfFound P (o >>= f)
then_found Q P None f known next = tt
then_found Q P (Some x) f known next = next x known

if_found : {A : Type 0} (P : A → Type 0) (test : Bool) (o other : Option A) → (test ≡ true → IfFound P o) → IfFound P other → IfFound P (cond test o other)
if_found P true o other one two = one refl
if_found P false o other one two = two

-- the bytes are the text of the value, whose numbers are in range, and what follows it
abbrev IsRead : {A : Type 0} → (A → List ℕ) → (A → Type 0) → List ℕ → A × List ℕ → Type 0
IsRead text Fits bytes found = (bytes ≡ text found.0 ++ found.1) × Fits found.0

-- what a reader reads is a text
abbrev Reads : {A : Type 0} → (A → List ℕ) → (A → Type 0) → TextReader A → Type 0
Reads text Fits read = (bytes : List ℕ) → IfFound (IsRead text Fits bytes) (read bytes)

after-reads : (sign : ℕ) (bytes : List ℕ) → IfFound (λ rest. bytes ≡ sign ∷ rest) (after sign bytes)
unfolding after
after-reads sign [] = tt
after-reads sign (first ∷ rest) =
    if_found (λ later. first ∷ rest ≡ sign ∷ later) (nat_eq first sign) (Some rest) None (λ same. ap (λ byte. byte ∷ rest) (eqb-true first sign same)) tt

then_after : {B : Type 0} (sign : ℕ) (bytes : List ℕ) (P : B → Type 0) (f : List ℕ → Option B) → ((rest : List ℕ) → bytes ≡ sign ∷ rest → IfFound P (f rest))
    → IfFound P (after sign bytes >>= f)
then_after sign bytes P f next = then_found (λ rest. bytes ≡ sign ∷ rest) P (after sign bytes) f (after-reads sign bytes) next

digit-text : (first most : ℕ) (rest : List ℕ) → most ≤ 9 → 48 ≤ first → first - 48 ≤ most → first ∷ rest ≡ decimal (first - 48) ++ rest
digit-text first most rest digits low high = grind (arith, common_steps, decimal_digit)

digit-reads : (most : ℕ) → most ≤ 9 → Reads decimal (λ n. n ≤ most) (digit_at most)
unfolding digit_at
digit-reads most digits [] = tt
digit-reads most digits (first ∷ rest) = grind (arith, common_steps, if_found, nat_tests, digit-text)

-- two digits of a number that has two
pair-text : (tens ones : ℕ) → tens ≤ 9 → ones ≤ 9 → 10 ≤ 10 * tens + ones → decimal (10 * tens + ones) ≡ decimal tens ++ decimal ones
pair-text tens ones first second low = grind (arith, common_steps, decimal_two, decimal_digit)

second-reads : (bytes : List ℕ) (first : ℕ) (rest : List ℕ) (second : Option (ℕ × List ℕ)) → bytes ≡ decimal first ++ rest → first ≤ 9
    → IfFound (IsRead decimal (λ n. n ≤ 9) rest) second → IfFound (IsRead decimal (λ n. n ≤ 31) bytes) (with_second first rest second)
unfolding with_second
second-reads bytes first rest None is few known = (is, omega (arith, few))
second-reads bytes first rest (Some second) is few known =
    grind (arith, common_steps, if_found, nat_tests, append_assoc, pair-text)

column-reads : Reads decimal (λ n. n ≤ 31) column_number_at
unfolding column_number_at
column-reads bytes = grind (arith, common_steps, then_found, digit-reads, second-reads)

scan-reads : (bytes : List ℕ) → IfFound (IsRead plan_text_of HasQueryNumbers (83 ∷ bytes)) (scan_at bytes)
unfolding scan_at
scan-reads bytes = grind (arith, common_steps, then_found, digit-reads)

index_scan-reads : (bytes : List ℕ) → IfFound (IsRead plan_text_of HasQueryNumbers (73 ∷ bytes)) (index_scan_at bytes)
unfolding index_scan_at
index_scan-reads bytes =
    then_found (IsRead decimal (λ n. n ≤ 5) bytes) (IsRead plan_text_of HasQueryNumbers (73 ∷ bytes)) (digit_at 5 bytes) _ (digit-reads 5 (omega arith) bytes)
    (λ relation read. then_after 46 relation.1 (IsRead plan_text_of HasQueryNumbers (73 ∷ bytes)) _
    (λ rest point. then_found (IsRead decimal (λ n. n ≤ 31) rest) (IsRead plan_text_of HasQueryNumbers (73 ∷ bytes)) (column_number_at rest) _ (column-reads rest)
    (λ column found. (
      ap (λ all. 73 ∷ all) (read.0 ∙ (ap (λ all. decimal relation.0 ++ all) (point ∙ ap (λ all. 46 ∷ all) found.0)
          ∙ sym (numbers-before (decimal relation.0) (decimal column.0) column.1))),
      (read.1, found.1),
    ))))

closed-reads : {A : Type 0} (text : A → List ℕ) (Fits : A → Type 0) (read : TextReader A) (sign : ℕ) → Reads text Fits read
    → (bytes : List ℕ) → IfFound (λ found. (bytes ≡ text found.0 ++ sign ∷ found.1) × Fits found.0) (closed_at read sign bytes)
unfolding closed_at
closed-reads text Fits read sign reads bytes =
    then_found (IsRead text Fits bytes) (λ found. (bytes ≡ text found.0 ++ sign ∷ found.1) × Fits found.0) (read bytes) _ (reads bytes)
    (λ x found. then_after sign x.1 (λ found. (bytes ≡ text found.0 ++ sign ∷ found.1) × Fits found.0) _
    (λ rest is. (found.0 ∙ ap (λ all. text x.0 ++ all) is, found.1)))

sides-reads : {B : Type 0} (text : B → List ℕ) (Fits : B → Type 0) (side : TextReader PlanTree) (other : TextReader B) → Reads plan_text_of HasQueryNumbers side → Reads text Fits other
    → Reads (λ found. sides_text (plan_text_of found.0) (text found.1)) (λ found. HasQueryNumbers found.0 × Fits found.1) (sides_at side other)
unfolding sides_at
sides-reads text Fits side other reads reads' bytes =
    let Found = IsRead (λ found. sides_text (plan_text_of found.0) (text found.1)) (λ found. HasQueryNumbers found.0 × Fits found.1) bytes in
    then_after 40 bytes Found _ (λ inside begins.
    then_found (λ left. (inside ≡ plan_text_of left.0 ++ 44 ∷ left.1) × HasQueryNumbers left.0) Found (closed_at side 44 inside) _ (closed-reads plan_text_of HasQueryNumbers side 44 reads inside)
    (λ left first. then_found (λ right. (left.1 ≡ text right.0 ++ 41 ∷ right.1) × Fits right.0) Found (closed_at other 41 left.1) _ (closed-reads text Fits other 41 reads' left.1)
    (λ right second. (
      begins ∙ (ap (λ all. 40 ∷ all) (first.0 ∙ ap (λ all. plan_text_of left.0 ++ 44 ∷ all) second.0)
          ∙ sym (sides-before (plan_text_of left.0) (text right.0) right.1)),
      (first.1, second.1),
    ))))

-- a join whose letter is known
join-reads : {B : Type 0} (letter : ℕ) (node : ℕ → PlanTree → B → PlanTree) (text : B → List ℕ) (Fits : B → Type 0) (side : TextReader PlanTree) (other : TextReader B)
    → ((edge : ℕ) (x : PlanTree) (y : B) → plan_text_of (node edge x y) ≡ letter ∷ (decimal edge ++ sides_text (plan_text_of x) (text y)))
    → ((edge : ℕ) (x : PlanTree) (y : B) → edge ≤ 5 → HasQueryNumbers x → Fits y → HasQueryNumbers (node edge x y))
    → Reads plan_text_of HasQueryNumbers side → Reads text Fits other
    → (bytes : List ℕ) → IfFound (IsRead plan_text_of HasQueryNumbers (letter ∷ bytes)) (join_at node side other bytes)
unfolding join_at
join-reads letter node text Fits side other node_text node_fits reads reads' bytes =
    let Found = IsRead plan_text_of HasQueryNumbers (letter ∷ bytes) in
    then_found (IsRead decimal (λ n. n ≤ 5) bytes) Found (digit_at 5 bytes) _ (digit-reads 5 (omega arith) bytes)
    (λ edge read. then_found (IsRead (λ found. sides_text (plan_text_of found.0) (text found.1)) (λ found. HasQueryNumbers found.0 × Fits found.1) edge.1) Found (sides_at side other edge.1) _
    (sides-reads text Fits side other reads reads' edge.1)
    (λ sides found.
    let both = sides_text (plan_text_of sides.0.0) (text sides.0.1) in (
      ap (λ all. letter ∷ all) (read.0 ∙ (ap (λ all. decimal edge.0 ++ all) found.0 ∙ sym (append_assoc (decimal edge.0) both sides.1)))
          ∙ ap (λ all. all ++ sides.1) (sym (node_text edge.0 sides.0.0 sides.0.1)),
      node_fits edge.0 sides.0.0 sides.0.1 read.1 found.1.0 found.1.1,
    )))

nest-reads : (side : TextReader PlanTree) → Reads plan_text_of HasQueryNumbers side → (bytes : List ℕ) → IfFound (IsRead plan_text_of HasQueryNumbers (78 ∷ bytes)) (nest_at side bytes)
unfolding nest_at
nest-reads side reads bytes =
    then_found (IsRead (λ found. sides_text (plan_text_of found.0) (plan_text_of found.1)) (λ found. HasQueryNumbers found.0 × HasQueryNumbers found.1) bytes)
    (IsRead plan_text_of HasQueryNumbers (78 ∷ bytes)) (sides_at side side bytes) _
    (sides-reads plan_text_of HasQueryNumbers side side reads reads bytes) (λ sides found. (ap (λ all. 78 ∷ all) found.0, found.1))

node_of-reads : (side : TextReader PlanTree) → Reads plan_text_of HasQueryNumbers side
    → (letter : ℕ) (bytes : List ℕ) → IfFound (IsRead plan_text_of HasQueryNumbers (letter ∷ bytes)) (plan_node_of side letter bytes)
unfolding plan_node_of
node_of-reads side reads letter bytes =
    let Found = IsRead plan_text_of HasQueryNumbers (letter ∷ bytes) in
    let where_letter = λ (known : ℕ) (o other : Option (PlanTree × List ℕ)) (found : IfFound (IsRead plan_text_of HasQueryNumbers (known ∷ bytes)) o) (otherwise : IfFound Found other).
    if_found Found (nat_eq letter known) o other (λ same. subst (λ (first : ℕ). IfFound (IsRead plan_text_of HasQueryNumbers (first ∷ bytes)) o) (sym (eqb-true letter known same)) found) otherwise in
    where_letter 83 (scan_at bytes) _ (scan-reads bytes)
    (where_letter 73 (index_scan_at bytes) _ (index_scan-reads bytes)
    (where_letter 78 (nest_at side bytes) _ (nest-reads side reads bytes)
    (where_letter 72 (join_at Hash side side bytes) _ (join-reads 72 Hash plan_text_of HasQueryNumbers side side (λ edge x y. refl) (λ edge x y few first second. (few, first, second)) reads reads bytes)
    (where_letter 77 (join_at Merge side side bytes) _ (join-reads 77 Merge plan_text_of HasQueryNumbers side side (λ edge x y. refl) (λ edge x y few first second. (few, first, second)) reads reads bytes)
    (where_letter 88 (join_at IndexLoop side (digit_at 5) bytes) None
    (join-reads 88 IndexLoop decimal (λ n. n ≤ 5) side (digit_at 5) (λ edge x y. refl) (λ edge x y few first second. (few, first, second)) reads (digit-reads 5 (omega arith)) bytes) tt)))))

plan-reads : (levels : ℕ) → Reads plan_text_of HasQueryNumbers (plan_tree_at levels)
unfolding plan_tree_at
plan-reads zero bytes = tt
plan-reads (suc levels) [] = tt
plan-reads (suc levels) (letter ∷ bytes) = node_of-reads (plan_tree_at levels) (plan-reads levels) letter bytes

found_is : {A : Type 0} (P : A → Type 0) (o : Option A) (x : A) → IfFound P o → o ≡ Some x → P x
found_is P o x found is = subst (IfFound P) is found

-- what is read, with nothing after it, has the text
pub has_text : (p : PlanTree) (bytes rest : List ℕ) → plan_tree_at 6 bytes ≡ Some (p, rest) → (nat_eq (length rest) 0 && nat_le (length (leaves_of p)) 6) ≡ true → HasText p bytes
has_text p bytes [] read whole = grind (arith, common_steps, found_is, plan-reads, nat_tests, append-nil)
has_text p bytes (first ∷ rest) read whole = absurd (grind (arith, nat_tests, whole))

-- what has the text is read, with nothing after it
pub text_is_read : (p : PlanTree) (bytes : List ℕ) → HasText p bytes → plan_tree_at 6 bytes ≡ Some (p, [])
unfolding digit_at
text_is_read p bytes has =
    ap (plan_tree_at 6) (has.text ∙ sym (append-nil (plan_text_of p))) ∙ plan-again 6 p has.few has.numbers [] refl
