-- Rows whose words lie one row after the other, gone through one row after the other.
use Rattle.std.proofs.Common.{◌≡◌, ◌∙◌, ℕ, ℤ, ◌+◌, ◌<◌, List, [], ◌∷◌, ◌++◌, length, get_or, take, drop, sym, ap, append-nil}
use Rattle.std.specs.Prelude.{flat_map}
use Rattle.std.proofs.Math.Seq.{take-append_seam, drop-append_seam}
use Rattle.std.proofs.lemmas.Grind.{flat_map-append}
use Rattle.std.proofs.lemmas.List.{at_drop_more, take_more}
use Rattle.result_text.specs.Rows.{WordRow, words_of}

-- the words that are left begin with those of the next row
pub next_row : (rows : List WordRow) (i : ℕ) (row : WordRow) (left : List ℤ) → i < length rows → row ≡ get_or rows i row → left ≡ words_of (drop i rows)
    → (take (length row) left ≡ row) × (drop (length row) left ≡ words_of (drop (i + 1) rows))
next_row rows i row left below is words =
    let rest = words_of (drop (i + 1) rows) in
    let joined : left ≡ row ++ rest = words ∙ at_drop_more words_of rows i row below ∙ ap (λ one. one ++ rest) (sym is) in
    (ap (take (length row)) joined ∙ take-append_seam row rest, ap (drop (length row)) joined ∙ drop-append_seam row rest)

-- what is made of each row, so far and with the next one
pub row_more : {A : Type 0} (make : WordRow → List A) (rows : List WordRow) (i : ℕ) (row : WordRow) → i < length rows → row ≡ get_or rows i row
    → flat_map make (take (i + 1) rows) ≡ flat_map make (take i rows) ++ make row
row_more make rows i row below is =
    ap (flat_map make) (take_more rows i row below)
    ∙ flat_map-append make (take i rows) (get_or rows i row ∷ [])
    ∙ ap (λ last. flat_map make (take i rows) ++ last) (append-nil (make (get_or rows i row)))
    ∙ ap (λ one. flat_map make (take i rows) ++ make one) (sym is)
