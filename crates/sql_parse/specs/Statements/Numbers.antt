-- Numbers behind a word: the levels of AUDIT, the turns of TURNS.
use Rattle.std.specs.Prelude.{ℕ, ◌≡◌, List, [], ◌∷◌, Some}
use Rattle.sql_parse.specs.Productions.{Word, Rule, After, Separated, after_word, Reader, choose, number_at, list_at, Keyword, Part, Number, listed}
use Rattle.sql_parse.specs.declared.mark.Mark.TheVariants as m
use Rattle.sql_parse.specs.Lexemes.{Number as NumberToken}

-- [ word number { "," number } ]
abbrev pub IsNumbers : (word : List ℕ) → Rule (List ℕ)
IsNumbers word tokens [] = tokens ≡ []
IsNumbers word tokens (n ∷ ns) = After (Word word) (Separated m.Comma (λ number n. number ≡ NumberToken n ∷ [])) tokens (n ∷ ns)

-- the numbers, where the word stands
unfoldable pub numbers_at : (word : List ℕ) → Reader (List ℕ)
numbers_at word tokens = choose (after_word word tokens) (Some ([], tokens)) (list_at number_at m.Comma)

-- the word is written where there are numbers
abbrev pub numbers_parts : (word : List ℕ) → List ℕ → List Part
numbers_parts word [] = []
numbers_parts word (n ∷ ns) = Keyword word ∷ listed (λ number. Number number ∷ []) (n ∷ ns)
