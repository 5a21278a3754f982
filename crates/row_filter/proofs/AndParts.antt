-- The parts of an AND, one after another.
use Rattle.std.proofs.Common.{◌≡◌, ℕ, ◌+◌, ◌<◌, ◌&&◌, Bool, true, false, List, [], ◌∷◌, ◌++◌, length, get_or, map, take, refl, sym, ap, ◌∙◌, arith}
use Rattle.std.proofs.lemmas.List.{take_more}
use Rattle.sql_values.specs.declared.truth.Truth.{Truth}
use Rattle.sql_values.specs.Stored.{ValueRow}
use Rattle.sql_values.specs.Truth.{truth_and}
use Rattle.query_block.specs.declared.condition.Condition.{Condition}
use Rattle.query_block.specs.Conditions.{chain, filter_tree}
use Rattle.query_block.specs.Meaning.{is_true}
use Rattle.query_block.specs.Truth.{truth_of, truth_of_all}

pub true-and : (a b : Truth) → is_true (truth_and a b) ≡ (is_true a && is_true b)
true-and a b = grind arith

pub and-first : (a b c : Bool) → (a && (b && c)) ≡ ((a && b) && c)
and-first true b c = refl
and-first false b c = refl

all-append : (parts : List Condition) (part : Condition) (row : ValueRow)
    → is_true (truth_of_all (chain (map filter_tree (parts ++ part ∷ []))) row) ≡ (is_true (truth_of_all (chain (map filter_tree parts)) row) && is_true (truth_of (filter_tree part) row))
all-append [] part row = true-and (truth_of (filter_tree part) row) (truth_of_all (chain []) row) ∙ grind arith
all-append (one ∷ parts) part row =
    let here = truth_of (filter_tree one) row in
    true-and here (truth_of_all (chain (map filter_tree (parts ++ part ∷ []))) row)
    ∙ ap (λ b. is_true here && b) (all-append parts part row)
    ∙ and-first (is_true here) (is_true (truth_of_all (chain (map filter_tree parts)) row)) (is_true (truth_of (filter_tree part) row))
    ∙ ap (λ b. b && is_true (truth_of (filter_tree part) row)) (sym (true-and here (truth_of_all (chain (map filter_tree parts)) row)))

-- a part more
pub all-parts-more : (parts : List Condition) (i : ℕ) (part : Condition) (row : ValueRow) → i < length parts → part ≡ get_or parts i part
    → (is_true (truth_of_all (chain (map filter_tree (take i parts))) row) && is_true (truth_of (filter_tree part) row)) ≡ is_true (truth_of_all (chain (map filter_tree (take (i + 1) parts))) row)
all-parts-more parts i part row below is =
    let whole : List Condition → Bool = λ some. is_true (truth_of_all (chain (map filter_tree some)) row) in
    sym (all-append (take i parts) part row) ∙ ap (λ (one : Condition). whole (take i parts ++ one ∷ [])) is ∙ ap whole (sym (take_more parts i part below))
