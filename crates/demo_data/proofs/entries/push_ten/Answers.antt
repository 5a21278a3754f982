use Rattle.std.proofs.Common.{rules, ◌≡◌, ◌≤◌, ℕ, ◌+◌, ◌-◌, ◌%◌, List, set, take, replicate, ◌∙◌, ap, sym, ◌<◌, length, ◌++◌, arith, append_assoc, length-append, length-take-le}
use Rattle.std.proofs.Math.Seq.{take-append-add, take-append_seam}
use Rattle.std.specs.List.{flat_map, range_with_len}
use Rattle.std.specs.Fmt.{decimal}
use Rattle.std.proofs.lemmas.Fmt.{decimal_nonempty, length-decimal-le}
use Rattle.std.proofs.lemmas.Grind.{common_steps}
use Rattle.demo_data.specs.Demo.{entry_line}
use Rattle.demo_data.proofs.LastDigit.{line_of_digits}
use Rattle.demo_data.proofs.ByTens.{entries_more}
use Rattle.demo_data.proofs.entries.push_ten.Goals as goal

some-digit : (n : ℕ) → n < 1000000 → 0 < length (decimal n)
some-digit n small = decimal_nonempty n (omega (arith, small))

few-digits : (n : ℕ) → n < 1000000 → length (decimal n) ≤ 6
few-digits n small = length-decimal-le 6 n (omega arith) (omega (arith, small)) (omega (arith, small))

take-front : (front rest : List ℕ) (n room : ℕ) → length front ≡ n → n ≤ room
    → take n (take room (front ++ rest)) ≡ front
take-front front rest n room whole fits = grind (arith, common_steps, take-append-add, take-append_seam)

-- what is copied begins with the whole entry
line-copied : (copied rest : List ℕ) (a b end : ℕ)
    → copied ≡ entry_line a b ++ rest → end ≡ length (decimal a) + 1 + length (decimal b)
    → a < 1000000 → b < 1000000
    → take (end - 1 + 2) (take 16 copied) ≡ entry_line a b
line-copied copied rest a b end is_copied is_end short_a short_b =
    let width : length (entry_line a b) ≡ end - 1 + 2 = simp length-append (omega (arith, is_end)) in
    ap (λ xs. take (end - 1 + 2) (take 16 xs)) is_copied
    ∙ take-front (entry_line a b) rest (end - 1 + 2) 16 width
    (omega (arith, is_end, few-digits a short_a, few-digits b short_b))

-- the entry behind so many others of the ten
entry_more : (text old line : List ℕ) (a b d comma end : ℕ)
    → line ≡ entry_line a b → comma ≡ length (decimal a) → end ≡ length (decimal a) + 1 + length (decimal b)
    → a % 10 ≡ 0 → b % 10 ≡ 0 → d < 10 → a < 1000000 → b < 1000000
    → text ≡ old ++ flat_map (λ k. entry_line (a + k) (b + k)) (range_with_len 0 d)
    → text ++ set (set line (comma - 1) (48 + d)) (end - 1) (48 + d)
    ≡ old ++ flat_map (λ k. entry_line (a + k) (b + k)) (range_with_len 0 (d + 1))
entry_more text old line a b d comma end is_line is_comma is_end ends_a ends_b small short_a short_b so_far =
    let before = old ++ flat_map (λ k. entry_line (a + k) (b + k)) (range_with_len 0 d) in
    let place : end - 1 ≡ length (decimal a) + length (decimal b) = omega (arith, is_end) in
    let digits = line_of_digits a b d ends_a ends_b small
    (omega (arith, short_a, small)) (omega (arith, short_b, small)) in
    ap (λ xs. xs ++ set (set line (comma - 1) (48 + d)) (end - 1) (48 + d)) so_far
    ∙ ap (λ xs. before ++ set (set xs (comma - 1) (48 + d)) (end - 1) (48 + d)) is_line
    ∙ ap (λ i. before ++ set (set (entry_line a b) (i - 1) (48 + d)) (end - 1) (48 + d)) is_comma
    ∙ ap (λ i. before ++ set (set (entry_line a b) (length (decimal a) - 1) (48 + d)) i (48 + d)) place
    ∙ ap (λ xs. before ++ xs) digits
    ∙ append_assoc old _ _
    ∙ ap (λ xs. old ++ xs) (sym (entries_more (λ k. entry_line (a + k) (b + k)) d))

pub overflow_sub-comma : goal.overflow_sub-comma
overflow_sub-comma c = search (rules, some-digit)

pub push_line-requires-clause-first : goal.push_line-requires-clause-first
push_line-requires-clause-first c = search (rules, common_steps, some-digit)

pub push_line-requires-clause-second : goal.push_line-requires-clause-second
push_line-requires-clause-second c = search (rules, common_steps, length-append, length-take-le, few-digits)

pub loop-d-preserved : goal.loop-d-preserved
loop-d-preserved c =
    let copied : c.deref.result.now ≡ entry_line c.args.first c.args.second ++ replicate 16 0 = search rules in
    let comma : c.len-comma.result ≡ length (decimal c.args.first) = grind (arith, common_steps) in
    let end : c.len-end.result ≡ length (decimal c.args.first) + 1 + length (decimal c.args.second) =
    grind (arith, common_steps) in
    let line = line-copied _ _ c.args.first c.args.second _ copied end c.requires.first_short c.requires.second_short in
    c.in_ok-push_line.ensures
    ∙ entry_more _ _ _ c.args.first c.args.second c.loop-d.d _ _ line comma end c.requires.first c.requires.second
    c.loop-d-test.true c.requires.first_short c.requires.second_short c.loop-d.invariant
