-- The parts of an OR, one after another.
use Rattle.std.proofs.Common.{◌≡◌, ℕ, ◌+◌, ◌<◌, ◌||◌, Bool, true, false, List, [], ◌∷◌, ◌++◌, length, get_or, map, take, refl, sym, ap, ◌∙◌, arith}
use Rattle.std.proofs.lemmas.List.{take_more}
use Rattle.sql_values.specs.declared.truth.Truth.{Truth}
use Rattle.sql_values.specs.Stored.{ValueRow}
use Rattle.sql_values.specs.Truth.{truth_or}
use Rattle.query_block.specs.declared.condition.Condition.{Condition}
use Rattle.query_block.specs.Conditions.{chain, filter_tree}
use Rattle.query_block.specs.Meaning.{is_true}
use Rattle.query_block.specs.Truth.{truth_of, truth_of_any}

pub true-or : (a b : Truth) → is_true (truth_or a b) ≡ (is_true a || is_true b)
true-or a b = grind arith

pub or-first : (a b c : Bool) → (a || (b || c)) ≡ ((a || b) || c)
or-first true b c = refl
or-first false b c = refl

any-append : (parts : List Condition) (part : Condition) (row : ValueRow)
    → is_true (truth_of_any (chain (map filter_tree (parts ++ part ∷ []))) row) ≡ (is_true (truth_of_any (chain (map filter_tree parts)) row) || is_true (truth_of (filter_tree part) row))
any-append [] part row = true-or (truth_of (filter_tree part) row) (truth_of_any (chain []) row) ∙ grind arith
any-append (one ∷ parts) part row =
    let here = truth_of (filter_tree one) row in
    true-or here (truth_of_any (chain (map filter_tree (parts ++ part ∷ []))) row)
    ∙ ap (λ b. is_true here || b) (any-append parts part row)
    ∙ or-first (is_true here) (is_true (truth_of_any (chain (map filter_tree parts)) row)) (is_true (truth_of (filter_tree part) row))
    ∙ ap (λ b. b || is_true (truth_of (filter_tree part) row)) (sym (true-or here (truth_of_any (chain (map filter_tree parts)) row)))

-- a part more
pub part-more : (parts : List Condition) (i : ℕ) (part : Condition) (before : Bool) (row : ValueRow) → i < length parts → part ≡ get_or parts i part
    → ((before || is_true (truth_of_any (chain (map filter_tree (take i parts))) row)) || is_true (truth_of (filter_tree part) row))
    ≡ (before || is_true (truth_of_any (chain (map filter_tree (take (i + 1) parts))) row))
part-more parts i part before row below is =
    let whole : List Condition → Bool = λ some. is_true (truth_of_any (chain (map filter_tree some)) row) in
    sym (or-first before (whole (take i parts)) (is_true (truth_of (filter_tree part) row)))
    ∙ ap (λ b. before || b)
    (sym (any-append (take i parts) part row) ∙ ap (λ (one : Condition). whole (take i parts ++ one ∷ [])) is ∙ ap whole (sym (take_more parts i part below)))
