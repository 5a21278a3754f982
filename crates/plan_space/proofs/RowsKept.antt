-- Rows that are kept one after another.
use Rattle.std.proofs.Common.{◌≡◌, ◌∙◌, ℕ, zero, suc, ◌+◌, ◌<◌, List, [], ◌∷◌, ◌++◌, length, set, get_or, refl, ap, ap₂, sym, arith}
use Rattle.std.specs.Prelude.{IfSome, None, Option, Some, replicate}
use Rattle.std.proofs.lemmas.List.{get_or_append_left, get_or-append-add, map-set}
use Rattle.std.proofs.lemmas.List.Elements.{All-head, All-tail}
use Rattle.plan_space.specs.declared.entry.Entry.{Entry}
use Rattle.plan_space.specs.KeptRows.{AreRowNumbers, numbered_row, rows_by_places}

-- a row that was there is the same with one more behind them
same-row : (rows : List (List Entry)) (row : List Entry) (number : Option ℕ) → IfSome number (λ one. one < length rows) → numbered_row (rows ++ row ∷ []) number ≡ numbered_row rows number
same-row rows row None there = refl
same-row rows row (Some number) there = ap Some (get_or_append_left rows (row ∷ []) [] number there)

same-rows : (rows : List (List Entry)) (row : List Entry) (numbers : List (Option ℕ)) → AreRowNumbers rows numbers → rows_by_places (rows ++ row ∷ []) numbers ≡ rows_by_places rows numbers
same-rows rows row [] are = refl
same-rows rows row (number ∷ more) are =
    let HasRow : Option ℕ → Type 0 = λ one. IfSome one (λ n. n < length rows) in
    ap₂ (λ (one : Option (List Entry)) (all : List (Option (List Entry))). one ∷ all) (same-row rows row number (All-head HasRow number more are)) (same-rows rows row more (All-tail HasRow number more are))

-- the last row is that of its place, and the others stay
pub row-kept : (rows more : List (List Entry)) (row : List Entry) (numbers : List (Option ℕ)) (place : ℕ) → more ≡ rows ++ row ∷ [] → AreRowNumbers rows numbers
    → rows_by_places more (set numbers place (Some (length rows))) ≡ set (rows_by_places rows numbers) place (Some row)
row-kept rows more row numbers place is are =
    let all = rows ++ row ∷ [] in
    let last : length rows + 0 ≡ length rows = omega arith in
    let here : numbered_row all (Some (length rows)) ≡ Some row =
    ap Some (ap (λ n. get_or all n []) (sym last) ∙ get_or-append-add rows (row ∷ []) 0 []) in
    ap (λ (some : List (List Entry)). rows_by_places some (set numbers place (Some (length rows)))) is
    ∙ map-set (numbered_row all) numbers place (Some (length rows))
    ∙ ap₂ (λ (some : List (Option (List Entry))) (one : Option (List Entry)). set some place one) (same-rows rows row numbers are) here

none-mapped : (rows : List (List Entry)) (places : ℕ) → rows_by_places rows (replicate places None) ≡ replicate places None
none-mapped rows zero = refl
none-mapped rows (suc places) = ap (λ (all : List (Option (List Entry))). None ∷ all) (none-mapped rows places)

-- no row is kept where no place has a number
pub no-row : (rows : List (List Entry)) (places : ℕ) (numbers : List (Option ℕ)) → numbers ≡ replicate places None → rows_by_places rows numbers ≡ replicate places None
no-row rows places numbers none = ap (rows_by_places rows) none ∙ none-mapped rows places
