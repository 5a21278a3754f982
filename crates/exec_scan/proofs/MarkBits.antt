-- The bits of marks: each is the mark of its row, and the marks behind some rows are those of the rows behind them.
use Rattle.std.proofs.Common.{◌≡◌, ℕ, zero, suc, ◌+◌, ◌*◌, ◌/◌, ◌%◌, ◌^◌, ◌<◌, Bool, true, false, cond, List, [], ◌∷◌, drop, get_or, length, refl, sym, ap, ◌∙◌, arith}
use Rattle.std.specs.Int.{bit_at, w64, trailing_zeros}
use Rattle.std.specs.Simd.Lanes.{mask_l}
use Rattle.std.proofs.Math.Nat.{div-div-eq-div-mul, div-one, pow-succ', zero-div}
use Rattle.std.proofs.lemmas.List.{drop-drop}
use Rattle.std.proofs.lemmas.Nat.Bits.{bit_at-trailing_zeros}
use Rattle.std.proofs.lemmas.Simd.{bit_mask_l}
use Rattle.narrow_columns.specs.Marks.{marks_of}
use Rattle.exec_scan.specs.NextMarks.{IsFirstMarked}

as-mask : (rows : List Bool) → marks_of rows ≡ mask_l rows
as-mask [] = refl
as-mask (mark ∷ rows) = ap (λ n. cond mark 1 0 + 2 * n) (as-mask rows)

bit-is : (rows : List Bool) (row : ℕ) → bit_at (marks_of rows) row ≡ cond (get_or rows row false) 1 0
bit-is rows row = ap (λ n. n / 2 ^ row % 2) (as-mask rows) ∙ bit_mask_l rows row

set-mark : (mark : Bool) → ◌≡◌ {A = ℕ} 1 (cond mark 1 0) → mark ≡ true
set-mark true is = refl
set-mark false is = absurd (omega arith)

unset-mark : (mark : Bool) → ◌≡◌ {A = ℕ} 0 (cond mark 1 0) → mark ≡ false
unset-mark true is = absurd (omega arith)
unset-mark false is = refl

there : (rows : List Bool) (row : ℕ) → get_or rows row false ≡ true → row < length rows
there [] row is = cc
there (mark ∷ rows) zero is = omega arith
there (mark ∷ rows) (suc row) is = let more = there rows row is in omega arith

-- the lowest bit is the mark of the first row that has one
pub lowest : (rows : List Bool) (marks : ℕ) → marks ≡ marks_of rows → 0 < marks → marks < 2 ^ 64 → IsFirstMarked rows (trailing_zeros w64 marks)
lowest rows marks is some few =
    let (less, one, none) = bit_at-trailing_zeros w64 marks some few in
    let mark_is = λ (row : ℕ). ap (λ n. bit_at n row) is ∙ bit-is rows row in
    let marked = set-mark _ (sym one ∙ mark_is (trailing_zeros w64 marks)) in
    record {
      there = there rows _ marked;
      unmarked = λ row below. unset-mark _ (sym (none row below) ∙ mark_is row);
      marked = marked;
    }

half : (mark : Bool) (rows : List Bool) → marks_of (mark ∷ rows) / 2 ≡ marks_of rows
half true rows = omega arith
half false rows = omega arith

shifted : (n : ℕ) (rows : List Bool) → marks_of rows / 2 ^ n ≡ marks_of (drop n rows)
shifted zero rows = div-one (marks_of rows)
shifted (suc n) [] = zero-div (2 ^ suc n)
shifted (suc n) (mark ∷ rows) =
    ap (λ k. marks_of (mark ∷ rows) / k) (pow-succ' 2 n)
    ∙ sym (div-div-eq-div-mul (marks_of (mark ∷ rows)) 2 (2 ^ n))
    ∙ ap (λ m. m / 2 ^ n) (half mark rows)
    ∙ shifted n rows

pub behind : (rows : List Bool) (marks before : ℕ) → marks ≡ marks_of rows → marks / 2 ^ before / 2 ≡ marks_of (drop (before + 1) rows)
behind rows marks before is =
    ap (λ m. m / 2 ^ before / 2) is
    ∙ ap (λ m. m / 2) (shifted before rows)
    ∙ shifted 1 (drop before rows)
    ∙ ap marks_of (drop-drop 1 before rows)
