-- Counting and marking words by their codes.
use Rattle.std.proofs.Common.{◌≡◌, ℕ, Bool, ℤ, List, [], ◌∷◌, map, take, drop, refl, sym, ap, ◌∙◌}
use lib.Count.{ones}
use lib.Lanes.{mask_l}
use Rattle.std.specs.List.{count_by}
use Rattle.std.proofs.lemmas.Simd.{ones-mask_l}
use Rattle.std.proofs.lemmas.List.{take-map, drop-map}
use Rattle.narrow_columns.specs.Marks.{marks_of}

-- a test of words that is one of numbers
module _ (word : ℕ → ℤ) (p : ℤ → Bool) (q : ℕ → Bool) (same : (code : ℕ) → p (word code) ≡ q code) where
  map-words : (codes : List ℕ) → map p (map word codes) ≡ map q codes
  map-words [] = refl
  map-words (code ∷ codes) = let rest = map-words codes in λ i. same code i ∷ rest i

  pub count_by-words : (codes : List ℕ) → count_by p (map word codes) ≡ count_by q codes
  count_by-words codes = sym (ones-mask_l p (map word codes)) ∙ ap (λ marks. ones (mask_l marks)) (map-words codes) ∙ ones-mask_l q codes

  pub marks_of-words : (first n : ℕ) (codes : List ℕ) → marks_of (map p (take n (drop first (map word codes)))) ≡ marks_of (map q (take n (drop first codes)))
  marks_of-words first n codes =
      ap (λ words. marks_of (map p (take n words))) (drop-map word first codes)
      ∙ ap (λ words. marks_of (map p words)) (take-map word n (drop first codes))
      ∙ ap marks_of (map-words (take n (drop first codes)))
