-- A row of words in which the words of one relation stand in their place has that relation's row.
use Rattle.std.proofs.Common.{◌≡◌, ℕ, zero, suc, ℤ, ◌+◌, ◌<◌, ◌≤◌, List, [], ◌∷◌, length, take, drop, sum_by, refl, sym, ap, subst, ◌∙◌, arith, length-drop}
use Rattle.std.proofs.lemmas.Bool.{false≢true}
use Rattle.std.proofs.lemmas.List.{drop-drop, nil_from_length}
use Rattle.std.proofs.lemmas.List.Sums.{sum_by-cons}
use Rattle.sql_values.specs.Stored.{ValueRow, values_of, AreWordsOf}
use Rattle.query_block.specs.Blocks.{RelationTree, relation_at}
use Rattle.query_block.specs.Combined.{combination_of, part_of}
use Rattle.plan_tree.specs.Plans.{Scan, has_leaf}
use Rattle.plan_tree.specs.Left.{ArePartWords, IsPart}
use Rattle.exec_scan.specs.Places.{placed_row}
use Rattle.exec_scan.proofs.LeafRows.{nothing, in_leaf, off_leaf, before_leaf}

abbrev pub size : RelationTree → ℕ
size relation = length relation.columns

-- what a row of words has of the relations from this number on
abbrev Has : (texts : List (List ℕ)) (r n : ℕ) → List RelationTree → List ℤ → List ValueRow → Type 0
Has texts r n relations words rows =
    ArePartWords texts (has_leaf (Scan r)) n relations words × (part_of (has_leaf (Scan r)) n (combination_of texts relations words) ≡ rows)

rest_long : (relation : RelationTree) (relations : List RelationTree) (words : List ℤ) → length words ≡ sum_by size (relation ∷ relations)
    → (size relation ≤ length words) × (length (drop (size relation) words) ≡ sum_by size relations)
rest_long relation relations words long =
    (omega (arith, long, sum_by-cons size relation relations), simp length-drop (omega (arith, long, sum_by-cons size relation relations)))

has_none : (texts : List (List ℕ)) (r n : ℕ) (relations : List RelationTree) (words : List ℤ) → r < n → length words ≡ sum_by size relations → Has texts r n relations words (nothing relations)
has_none texts r n [] words past long = (nil_from_length words long, refl)
has_none texts r n (relation ∷ relations) words past long =
    let (fits, others) = rest_long relation relations words long in
    let rest = has_none texts r (n + 1) relations (drop (size relation) words) (omega arith) others in
    ((fits, λ is. absurd (false≢true (sym (off_leaf r n past) ∙ is)), rest.0), rw (off_leaf r n past) (ap (λ (rows : List ValueRow). [] ∷ rows) rest.1))

-- the words of relation k of these stand in their place
has_one : (texts : List (List ℕ)) (r n k : ℕ) (relations : List RelationTree) (row : ValueRow) (own words : List ℤ) → n + k ≡ r → k < length relations
    → length words ≡ sum_by size relations → take (size (relation_at relations k)) (drop (sum_by size (take k relations)) words) ≡ own
    → AreWordsOf texts (relation_at relations k).columns own → values_of texts (relation_at relations k).columns own ≡ row
    → Has texts r n relations words (placed_row relations k row)
has_one texts r n k [] row own words at there long stand are seen = absurd (omega (arith, there))
has_one texts r n zero (relation ∷ relations) row own words at there long stand are seen =
    let (fits, others) = rest_long relation relations words long in
    let rest = has_none texts r (n + 1) relations (drop (size relation) words) (omega (arith, at)) others in
    let first : values_of texts relation.columns (take (size relation) words) ≡ row = ap (values_of texts relation.columns) stand ∙ seen in (
      (fits, (λ _. subst (AreWordsOf texts relation.columns) (sym stand) are), rest.0),
      rw (in_leaf r n (omega (arith, at))) (λ i. first i ∷ rest.1 i),
    )
has_one texts r n (suc k) (relation ∷ relations) row own words at there long stand are seen =
    let (fits, others) = rest_long relation relations words long in
    let before = sum_by size (take k relations) in
    let place : drop before (drop (size relation) words) ≡ drop (sum_by size (relation ∷ take k relations)) words =
    drop-drop before (size relation) words ∙ ap (λ (n : ℕ). drop n words) (sym (sum_by-cons size relation (take k relations))) in
    let rest = has_one texts r (n + 1) k relations row own (drop (size relation) words) (omega (arith, at)) (omega (arith, there)) others
    (ap (take (size (relation_at relations k))) place ∙ stand) are seen in (
      (fits, λ is. absurd (false≢true (sym (before_leaf r n k at) ∙ is)), rest.0),
      rw (before_leaf r n k at) (ap (λ (rows : List ValueRow). [] ∷ rows) rest.1),
    )

pub is-part : (texts : List (List ℕ)) (r : ℕ) (relations : List RelationTree) (row : ValueRow) (own words : List ℤ) → r < length relations
    → length words ≡ sum_by size relations → take (size (relation_at relations r)) (drop (sum_by size (take r relations)) words) ≡ own
    → AreWordsOf texts (relation_at relations r).columns own → values_of texts (relation_at relations r).columns own ≡ row
    → IsPart texts relations (has_leaf (Scan r)) words (placed_row relations r row)
is-part texts r relations row own words there long stand are seen =
    let has = has_one texts r 0 r relations row own words (omega arith) there long stand are seen in
    record { allowed = has.0; values = has.1 }
