-- Marks of a block of 64 codes, as the lanes of two comparisons give them.
use Rattle.std.proofs.Common.{◌≡◌, ℕ, ◌+◌, ◌*◌, ◌-◌, ◌%◌, ◌^◌, ◌≤◌, ◌&&◌, Bool, true, false, cond, leb, List, [], ◌∷◌, length, map, take, drop, replicate, refl, ap, ◌∙◌, arith}
use mir.Syntax.{Width, w8, w16, w32, w64, w128}
use mir.Val.{bits, hbits}
use lib.Bits.{bit_and}
use lib.Lanes.{zip2, chunk, mask_l, top}
use Rattle.std.proofs.lemmas.Simd.{zip2_splat, zip2_splat_left, length-chunk, zip2_of_maps, map-map, mask_l-mod}
use Rattle.std.proofs.lemmas.List.{length-map, take-take}
use Rattle.narrow_columns.specs.Codes.{is_code_among}
use Rattle.narrow_columns.specs.Marks.{marks_of}

-- the two ways to write marks as one number
pub marks_of-mask_l : (marks : List Bool) → mask_l marks ≡ marks_of marks
marks_of-mask_l [] = refl
marks_of-mask_l (mark ∷ marks) = ap (λ n. cond mark 1 0 + 2 * n) (marks_of-mask_l marks)

-- a lane of a comparison
abbrev lane : Width → Bool → ℕ
lane w b = cond b (2 ^ bits w - 1) 0

-- a lane of two comparisons is set where both are
top-both : (w : Width) (a b : Bool) → top (hbits w) (bit_and (lane w a) (lane w b)) ≡ a && b
top-both w8 true true = refl
top-both w8 true false = refl
top-both w8 false true = refl
top-both w8 false false = refl
top-both w16 true true = refl
top-both w16 true false = refl
top-both w16 false true = refl
top-both w16 false false = refl
top-both w32 true true = refl
top-both w32 true false = refl
top-both w32 false true = refl
top-both w32 false false = refl
top-both w64 true true = refl
top-both w64 true false = refl
top-both w64 false true = refl
top-both w64 false false = refl
top-both w128 true true = refl
top-both w128 true false = refl
top-both w128 false true = refl
top-both w128 false false = refl

map-same : {A B : Type 0} (f g : A → B) → ((a : A) → f a ≡ g a) → (xs : List A) → map f xs ≡ map g xs
map-same f g same [] = refl
map-same f g same (x ∷ xs) = λ i. same x i ∷ map-same f g same xs i

-- a load of 64 codes from a place on
loaded : (codes items : List ℕ) (first : ℕ) → codes ≡ items → first + 64 ≤ length items
    → chunk 0 64 (take (length codes - first) (drop first codes)) ≡ take 64 (drop first items)
loaded codes items first same there =
    take-take 64 (length codes - first) (drop first codes) (omega (arith, ap length same)) ∙ ap (λ l. take 64 (drop first l)) same

-- the marks of the codes from the least up to the greatest
marks-of-lanes : (w : Width) (least greatest : ℕ) (codes : List ℕ) → length codes ≡ 64
    → mask_l (map (top (hbits w)) (zip2 bit_and (zip2 (λ a b. lane w (leb a b)) (replicate 64 least) codes) (zip2 (λ a b. lane w (leb a b)) codes (replicate 64 greatest)))) % 2 ^ 64
    ≡ marks_of (map (is_code_among least greatest) codes)
marks-of-lanes w least greatest codes long =
    let from = zip2_splat_left (λ a b. lane w (leb a b)) least 64 codes long in
    let to = zip2_splat (λ a b. lane w (leb a b)) codes 64 greatest long in
    let both = zip2_of_maps bit_and (λ code. lane w (leb least code)) (λ code. lane w (leb code greatest)) codes from to in
    let lanes = ap (map (top (hbits w))) both ∙ map-map (top (hbits w)) (λ code. bit_and (lane w (leb least code)) (lane w (leb code greatest))) codes
    ∙ map-same _ _ (λ code. top-both w (leb least code) (leb code greatest)) codes in
    ap (λ marks. mask_l marks % 2 ^ 64) lanes
    ∙ mask_l-mod (map (is_code_among least greatest) codes) 64 (omega (arith, length-map codes (is_code_among least greatest)))
    ∙ marks_of-mask_l (map (is_code_among least greatest) codes)

-- the same, of codes that are loaded
pub block-marks : (w : Width) (least greatest : ℕ) (codes items : List ℕ) (first : ℕ) → codes ≡ items → first + 64 ≤ length items
    → mask_l (map (top (hbits w)) (zip2 bit_and
    (zip2 (λ a b. lane w (leb a b)) (replicate 64 least) (chunk 0 64 (take (length codes - first) (drop first codes))))
    (zip2 (λ a b. lane w (leb a b)) (chunk 0 64 (take (length codes - first) (drop first codes))) (replicate 64 greatest)))) % 2 ^ 64
    ≡ marks_of (map (is_code_among least greatest) (take 64 (drop first items)))
block-marks w least greatest codes items first same there =
    let block = loaded codes items first same there in
    ap (λ l. mask_l (map (top (hbits w)) (zip2 bit_and (zip2 (λ a b. lane w (leb a b)) (replicate 64 least) l) (zip2 (λ a b. lane w (leb a b)) l (replicate 64 greatest)))) % 2 ^ 64) block
    ∙ marks-of-lanes w least greatest (take 64 (drop first items)) (length-chunk first 64 items there)
