-- Entries ten at a time, in columns that begin again after a number of tens.
use Rattle.std.proofs.Common.{◌≡◌, ℕ, zero, suc, ◌+◌, ◌*◌, ◌/◌, ◌%◌, ◌<◌, ◌≤◌, List, [], ◌∷◌, ◌++◌, sym, refl, ap, ◌∙◌, append-nil, append_assoc, map-id, arith, rules}
use Rattle.std.specs.List.{flat_map, range_with_len}
use Rattle.std.proofs.Math.Nat.{mod-eq_of_lt, mul_left_comm}
use Rattle.std.proofs.lemmas.Grind.{flat_map-append}
use Rattle.std.proofs.lemmas.List.FromFn.{map-range_with_len_more}
use Rattle.std.proofs.lemmas.Nat.{div-add-mod', mod-mul-add, mod_below}
use Rattle.demo_data.specs.Demo.{entry_line, file_of_entries}

numbers-more : (count : ℕ) → range_with_len 0 (count + 1) ≡ range_with_len 0 count ++ count ∷ []
numbers-more count =
    simp map-id at (map-range_with_len_more (λ (i : ℕ). i) 0 count count (omega arith))

-- behind the first entries comes the next one
pub entries_more : (line : ℕ → List ℕ) (count : ℕ)
    → flat_map line (range_with_len 0 (count + 1)) ≡ flat_map line (range_with_len 0 count) ++ line count
entries_more line count = search (rules, numbers-more, flat_map-append, append-nil)

-- and so many others
entries_behind : (line : ℕ → List ℕ) (before count : ℕ)
    → flat_map line (range_with_len 0 (before + count))
    ≡ flat_map line (range_with_len 0 before) ++ flat_map (λ d. line (before + d)) (range_with_len 0 count)
entries_behind line before zero = search (rules, append-nil)
entries_behind line before (suc count) =
    let end : before + suc count ≡ before + count + 1 = omega arith in
    let next : suc count ≡ count + 1 = omega arith in
    ap (λ n. flat_map line (range_with_len 0 n)) end
    ∙ entries_more line (before + count)
    ∙ ap (λ xs. xs ++ line (before + count)) (entries_behind line before count)
    ∙ append_assoc (flat_map line (range_with_len 0 before)) _ _
    ∙ ap (λ xs. flat_map line (range_with_len 0 before) ++ xs) (sym (entries_more (λ d. line (before + d)) count))
    ∙ ap (λ n. flat_map line (range_with_len 0 before) ++ flat_map (λ d. line (before + d)) (range_with_len 0 n))
    (sym next)

-- equal entries make equal files
pub same_entries : (line other : ℕ → List ℕ) (count : ℕ) → ((i : ℕ) → i < count → line i ≡ other i)
    → flat_map line (range_with_len 0 count) ≡ flat_map other (range_with_len 0 count)
same_entries line other zero same = refl
same_entries line other (suc count) same =
    let next : suc count ≡ count + 1 = omega arith in
    ap (λ n. flat_map line (range_with_len 0 n)) next
    ∙ entries_more line count
    ∙ ap (λ xs. xs ++ line count) (same_entries line other count (λ i below. same i (omega (arith, below))))
    ∙ ap (λ last. flat_map other (range_with_len 0 count) ++ last) (same count (omega arith))
    ∙ sym (entries_more other count)
    ∙ ap (λ n. flat_map other (range_with_len 0 n)) (sym next)

pub rest_ends_in_0 : (ten period : ℕ) → period % 10 ≡ 0 → 10 * ten % period % 10 ≡ 0
rest_ends_in_0 ten period tens =
    let times : 10 * ten / period * (10 * (period / 10)) ≡ 10 * (10 * ten / period * (period / 10)) =
    mul_left_comm (10 * ten / period) 10 (period / 10) in
    let whole : 10 * (period / 10) ≡ period = omega (arith, tens) in
    let product : 10 * ten / period * period ≡ 10 * (10 * ten / period * (period / 10)) = rw whole at times in
    let parts : 10 * ten / period * period + 10 * ten % period ≡ 10 * ten = div-add-mod' (10 * ten) period in
    omega (arith, product, parts)

-- inside ten entries a column doesn't begin again
rest_in_ten : (ten period d : ℕ) → 1 ≤ period → period % 10 ≡ 0 → d < 10
    → (10 * ten + d) % period ≡ 10 * ten % period + d
rest_in_ten ten period d some tens small =
    let rest : 10 * ten % period % 10 ≡ 0 = rest_ends_in_0 ten period tens in
    let below : 10 * ten % period < period = mod_below (10 * ten) period some in
    let parts : 10 * ten / period * period + 10 * ten % period ≡ 10 * ten = div-add-mod' (10 * ten) period in
    let sum : 10 * ten + d ≡ 10 * ten / period * period + (10 * ten % period + d) = omega (arith, parts) in
    ap (λ n. n % period) sum
    ∙ mod-mul-add (10 * ten / period) period (10 * ten % period + d) (omega (arith, rest, below, tens, small))

pub ten_more : (header : List ℕ) (first second ten : ℕ)
    → 1 ≤ first → first % 10 ≡ 0 → 1 ≤ second → second % 10 ≡ 0
    → file_of_entries header (10 * (ten + 1)) (λ i. entry_line (i % first) (i % second))
    ≡ file_of_entries header (10 * ten) (λ i. entry_line (i % first) (i % second))
    ++ flat_map (λ d. entry_line (10 * ten % first + d) (10 * ten % second + d)) (range_with_len 0 10)
ten_more header first second ten some_first tens_first some_second tens_second =
    let line = λ (i : ℕ). entry_line (i % first) (i % second) in
    let end : 10 * (ten + 1) ≡ 10 * ten + 10 = omega arith in
    let same = λ (d : ℕ) (small : d < 10).
    ap (λ n. entry_line n ((10 * ten + d) % second)) (rest_in_ten ten first d some_first tens_first small)
    ∙ ap (λ n. entry_line (10 * ten % first + d) n) (rest_in_ten ten second d some_second tens_second small) in
    ap (λ n. file_of_entries header n line) end
    ∙ ap (λ xs. header ++ xs) (entries_behind line (10 * ten) 10)
    ∙ ap (λ xs. header ++ (flat_map line (range_with_len 0 (10 * ten)) ++ xs))
    (same_entries (λ d. line (10 * ten + d)) (λ d. entry_line (10 * ten % first + d) (10 * ten % second + d)) 10 same)
    ∙ sym (append_assoc header _ _)

-- a column that is as long as the file is counted through
pub counted_through : (header : List ℕ) (count second : ℕ)
    → file_of_entries header count (λ i. entry_line (i % count) (i % second))
    ≡ file_of_entries header count (λ i. entry_line i (i % second))
counted_through header count second = search (rules, same_entries, mod-eq_of_lt)
