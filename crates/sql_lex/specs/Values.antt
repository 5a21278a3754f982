-- What the bytes of a token stand for.
use Rattle.std.specs.Prelude.{ℕ, ◌+◌, ◌-◌, ◌*◌, ◌==◌, Bool, true, false, List, [], ◌∷◌, ◌++◌, length, map, fold, codes, if◌then◌else◌}
use Rattle.std.specs.List.{flat_map, slice_range}
use Rattle.std.specs.Char.{to_ascii_uppercase}
use Rattle.sql_values.specs.declared.op.Op.{Op}
use Rattle.sql_values.specs.declared.op.Op.TheVariants.{Eq, Ne, Lt, Le, Gt, Ge}

-- a word stands for itself in upper case
abbrev pub word_value_of : List ℕ → List ℕ
word_value_of bytes = map to_ascii_uppercase bytes

-- the digits of a number, from the left
abbrev pub number_value_of : List ℕ → ℕ
number_value_of bytes = fold (λ value digit. 10 * value + (digit - 48)) 0 bytes

-- each quote doubled
abbrev pub doubled : List ℕ → List ℕ
doubled value = flat_map (λ b. if b == 39 then 39 ∷ 39 ∷ [] else b ∷ []) value

-- a value as a text literal: each quote doubled, between quotes
abbrev pub quoted : List ℕ → List ℕ
quoted value = 39 ∷ (doubled value ++ 39 ∷ [])

-- each byte but the second of two quotes; `skip` says that the first one stood just before
abbrev pub halved : (skip : Bool) → List ℕ → List ℕ
halved skip [] = []
halved true (b ∷ bs) = halved false bs
halved false (b ∷ bs) = b ∷ halved (b == 39) bs

-- what stands between the quotes of a text literal
abbrev pub between_quotes : List ℕ → List ℕ
between_quotes bytes = slice_range bytes 1 (length bytes - 1)

-- a text literal stands for what is between its quotes, with one quote for two
abbrev pub text_value_of : List ℕ → List ℕ
text_value_of bytes = halved false (between_quotes bytes)

-- how a comparison is spelled
abbrev pub comparison_text : Op → List ℕ
comparison_text Eq = codes "="
comparison_text Ne = codes "<>"
comparison_text Lt = codes "<"
comparison_text Le = codes "<="
comparison_text Gt = codes ">"
comparison_text Ge = codes ">="
