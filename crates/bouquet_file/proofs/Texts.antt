-- Texts of plans are ASCII.
use Rattle.std.proofs.Common.{ℕ, zero, suc, ◌/◌, ◌%◌, ◌<◌, ◌==◌, Bool, true, false, cond, List, [], ◌∷◌, ◌++◌, decimal, arith}
use Rattle.std.specs.Prelude.{IsAscii, IsUtf8}
use Rattle.std.specs.Fmt.{digits, digits_onto, digit_glyph}
use Rattle.std.proofs.lemmas.Bool.{lt-ltb}
use Rattle.std.proofs.lemmas.Str.{IsUtf8-from_ascii, IsAscii-append}
use Rattle.plan_tree.specs.Plans.{PlanTree, Scan, IndexScan, Nest, Hash, Merge, IndexLoop}
use Rattle.plan_tree.specs.Text.{sides_text, plan_text_of}

none-ascii : IsAscii []
none-ascii i = omega arith

more-ascii : (x : ℕ) (xs : List ℕ) → x < 128 → IsAscii xs → IsAscii (x ∷ xs)
more-ascii x xs small rest zero = small
more-ascii x xs small rest (suc i) = rest i

glyph-small : (n : ℕ) → digit_glyph false (n % 10) < 128
glyph-small n = rw (lt-ltb (n % 10) 10 (omega arith)) (omega arith)

digits-ascii : (k n : ℕ) (acc : List ℕ) → IsAscii acc → IsAscii (digits_onto k 10 false n acc)
digits-ascii zero n acc rest = rest
digits-ascii (suc k) n acc rest = by (digits-ascii k (n / 10) (digit_glyph false (n % 10) ∷ acc) longer) (n / 10 == 0)
  where
    longer : IsAscii (digit_glyph false (n % 10) ∷ acc)
    longer = more-ascii (digit_glyph false (n % 10)) acc (glyph-small n) rest

    by : IsAscii (digits_onto k 10 false (n / 10) (digit_glyph false (n % 10) ∷ acc)) → (b : Bool)
        → IsAscii (cond b (digit_glyph false (n % 10) ∷ acc) (digits_onto k 10 false (n / 10) (digit_glyph false (n % 10) ∷ acc)))
    by more true = longer
    by more false = more

decimal-ascii : (n : ℕ) → IsAscii (decimal n)
unfolding digits
decimal-ascii n = digits-ascii 64 n [] none-ascii

-- a letter or a sign alone
sign-ascii : (sign : ℕ) → sign < 128 → IsAscii (sign ∷ [])
sign-ascii sign small = more-ascii sign [] small none-ascii

sides-ascii : (left right : List ℕ) → IsAscii left → IsAscii right → IsAscii (sides_text left right)
sides-ascii left right ascii ascii' =
    let opened = IsAscii-append (40 ∷ []) left (sign-ascii 40 (omega arith)) ascii in
    let between = IsAscii-append ((40 ∷ []) ++ left) (44 ∷ []) opened (sign-ascii 44 (omega arith)) in
    let both = IsAscii-append (((40 ∷ []) ++ left) ++ (44 ∷ [])) right between ascii' in
    IsAscii-append ((((40 ∷ []) ++ left) ++ (44 ∷ [])) ++ right) (41 ∷ []) both (sign-ascii 41 (omega arith))

-- a letter and a number
number-ascii : (letter number : ℕ) → letter < 128 → IsAscii ((letter ∷ []) ++ decimal number)
number-ascii letter number small = IsAscii-append (letter ∷ []) (decimal number) (sign-ascii letter small) (decimal-ascii number)

join-ascii : (letter number : ℕ) (left right : List ℕ) → letter < 128 → IsAscii left → IsAscii right → IsAscii (((letter ∷ []) ++ decimal number) ++ sides_text left right)
join-ascii letter number left right small ascii ascii' =
    IsAscii-append ((letter ∷ []) ++ decimal number) (sides_text left right) (number-ascii letter number small) (sides-ascii left right ascii ascii')

plan-ascii : (p : PlanTree) → IsAscii (plan_text_of p)
plan-ascii (Scan relation) = number-ascii 83 relation (omega arith)
plan-ascii (IndexScan relation column) =
    let dotted = IsAscii-append ((73 ∷ []) ++ decimal relation) (46 ∷ []) (number-ascii 73 relation (omega arith)) (sign-ascii 46 (omega arith)) in
    IsAscii-append (((73 ∷ []) ++ decimal relation) ++ (46 ∷ [])) (decimal column) dotted (decimal-ascii column)
plan-ascii (Nest left right) =
    let sides = sides-ascii (plan_text_of left) (plan_text_of right) (plan-ascii left) (plan-ascii right) in
    IsAscii-append (78 ∷ []) (sides_text (plan_text_of left) (plan_text_of right)) (sign-ascii 78 (omega arith)) sides
plan-ascii (Hash edge left right) = join-ascii 72 edge (plan_text_of left) (plan_text_of right) (omega arith) (plan-ascii left) (plan-ascii right)
plan-ascii (Merge edge left right) = join-ascii 77 edge (plan_text_of left) (plan_text_of right) (omega arith) (plan-ascii left) (plan-ascii right)
plan-ascii (IndexLoop edge left relation) = join-ascii 88 edge (plan_text_of left) (decimal relation) (omega arith) (plan-ascii left) (decimal-ascii relation)

pub plan-utf8 : (p : PlanTree) → IsUtf8 (plan_text_of p)
plan-utf8 p = IsUtf8-from_ascii (plan_text_of p) (plan-ascii p)
