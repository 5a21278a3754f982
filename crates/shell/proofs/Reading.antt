-- How far a source is read.
use Rattle.std.proofs.Common.{◌≡◌, ◌⊎◌, inl, inr, ℕ, ◌+◌, ◌<◌, ◌≤◌, List, [], ◌++◌, length, take, drop, Option, Some, None, sym, ap, ◌∙◌, subst, arith, length-append}
use Rattle.std.specs.Prelude.{IfSome}
use Rattle.std.proofs.Math.Seq.{drop-append-add}
use Rattle.std.proofs.lemmas.Bool.{cases_eq}
use Rattle.std.proofs.lemmas.List.{append-nil, nil_from_length, take_at, drop_at, take_all, drop_all}
use Rattle.shell.specs.Source.{TakesAtMost}

-- the bytes so far and what is left are the whole
abbrev pub IsSplit : List ℕ → Option (List ℕ) → Option (List ℕ) → Type 0
IsSplit bytes whole now = IfSome whole (λ left. (rest : List ℕ) × (now ≡ Some rest) × (bytes ++ rest ≡ left))

-- between two takes: each turn took a byte, and no turn too many
pub record IsReading (most turn : ℕ) (bytes : List ℕ) (whole now : Option (List ℕ)) : Type 0 where
  pub turns : turn ≤ length bytes
  pub short : length bytes ≤ most
  pub split : IsSplit bytes whole now

split_on : (bytes more : List ℕ) (whole now later : Option (List ℕ)) → IsSplit bytes whole now → IfSome now (λ left. IsSplit more (Some (bytes ++ left)) later) → IsSplit more whole later
split_on bytes more None now later s t = tt
split_on bytes more (Some w) None later s t = cc s.1
split_on bytes more (Some w) (Some l) later s t =
    let same : l ≡ s.0 = cc s.1 in
    (t.0, t.1, t.2 ∙ ap (λ (r : List ℕ). bytes ++ r) same ∙ s.2)

-- a turn that took something goes on
pub reading_on : (most turn n : ℕ) (bytes more : List ℕ) (whole now later : Option (List ℕ)) → IsReading most turn bytes whole now → 0 < n → n + length bytes ≤ most → length more ≡ length bytes + n → IfSome now (λ left. IsSplit more (Some (bytes ++ left)) later)
    → IsReading most (turn + 1) more whole later
reading_on most turn n bytes more whole now later is some room longer took = record {
  turns = omega (arith, is.turns);
  short = omega arith;
  split = split_on bytes more whole now later is.split took;
}

taken_whole : (most : ℕ) (bytes rest w : List ℕ) → length bytes ≤ most → bytes ++ rest ≡ w → (length bytes ≡ most) ⊎ (rest ≡ []) → (bytes ≡ take most w) × (rest ≡ drop most w)
taken_whole most bytes rest w short is (inl full) =
    (sym (take_at bytes rest most full) ∙ ap (λ (l : List ℕ). take most l) is, sym (drop_at bytes rest most full) ∙ ap (λ (l : List ℕ). drop most l) is)
taken_whole most bytes rest w short is (inr none) =
    let all : bytes ≡ w = sym (append-nil bytes) ∙ ap (λ (r : List ℕ). bytes ++ r) (sym none) ∙ is in
    let few : length w ≤ most = subst (λ (l : List ℕ). length l ≤ most) all short in
    (all ∙ sym (take_all most w few), none ∙ sym (drop_all most w few))

-- as many bytes as may be are the beginning of the whole, and the rest is left
pub read_full : (most : ℕ) (bytes : List ℕ) (whole now : Option (List ℕ)) → length bytes ≡ most → IsSplit bytes whole now
    → IfSome whole (λ left. (bytes ≡ take most left) × (now ≡ Some (drop most left)))
read_full most bytes None now full s = tt
read_full most bytes (Some w) now full s =
    let parts = taken_whole most bytes s.0 w (omega (arith, full)) s.2 (inl full) in
    (parts.0, s.1 ∙ ap Some parts.1)

nothing_left : (most : ℕ) (bytes more rest left : List ℕ) → length bytes ≤ most → length more ≡ length bytes + 0 → more ++ rest ≡ bytes ++ left → (length bytes < most → left ≡ []) → (length more ≡ most) ⊎ (rest ≡ [])
nothing_left most bytes more rest left short longer same end = elim (cases_eq (length bytes) most) [
  | inl full ↦ inl (omega (arith, full))
  | inr not_full ↦
      let none : left ≡ [] = end (omega (arith, not_full)) in
      let lengths : length (more ++ rest) ≡ length (bytes ++ left) = ap length same in
      let empty : length left ≡ 0 = ap length none in
      inr (nil_from_length rest (omega (arith, simp length-append at lengths, empty)))
]

-- so are the bytes after a turn that took nothing
pub read_last : (most : ℕ) (bytes more : List ℕ) (whole now later : Option (List ℕ)) → length bytes ≤ most → length more ≡ length bytes + 0 → IsSplit bytes whole now → IfSome now (λ left. IsSplit more (Some (bytes ++ left)) later)
    → (length bytes < most → IfSome now (λ left. left ≡ [])) → IfSome whole (λ left. (more ≡ take most left) × (later ≡ Some (drop most left)))
unfolding split_on
read_last most bytes more None now later short longer s took end = tt
read_last most bytes more (Some w) None later short longer s took end = cc s.1
read_last most bytes more (Some w) (Some l) later short longer s took end =
    let on = split_on bytes more (Some w) (Some l) later s took in
    let parts = taken_whole most more on.0 w (omega arith) on.2 (nothing_left most bytes more took.0 l short longer took.2 end) in
    (parts.0, on.1 ∙ ap Some parts.1)

-- nor did a last take
pub takes_on : (most room : ℕ) (bytes : List ℕ) (whole now later : Option (List ℕ)) → room + length bytes ≤ most → IsSplit bytes whole now → IfSome now (TakesAtMost room later) → IfSome whole (TakesAtMost most later)
takes_on most room bytes None now later fits s took = tt
takes_on most room bytes (Some w) None later fits s took = cc s.1
takes_on most room bytes (Some w) (Some l) later fits s took =
    let same : l ≡ s.0 = cc s.1 in
    let past : drop (length bytes + took.0) w ≡ drop took.0 l =
    ap (λ (x : List ℕ). drop (length bytes + took.0) x) (sym s.2) ∙ drop-append-add bytes s.0 took.0 ∙ ap (λ (x : List ℕ). drop took.0 x) (sym same) in
    (length bytes + took.0, omega (arith, took.1, fits), took.2 ∙ ap Some (sym past))
