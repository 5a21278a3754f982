-- COMPILE.
use Rattle.std.specs.Prelude.{codes, ℕ, ◌≡◌, List, [], ◌∷◌, ◌++◌, Some, Option, None}
use Rattle.sql_parse.specs.Productions.{Lexeme, Word, mark, Rule, IsName, IsSelect, after_word, Reader, ◌>>=◌, choose, after_mark, name_at, number_at, select_at, Keyword, Part, Number}
use Rattle.sql_parse.specs.declared.mark.Mark.TheVariants as m
use Rattle.sql_parse.specs.Lexemes.{Number as NumberToken}
use Rattle.sql_parse.specs.Trees.{QueryTree, StatementTree, Compile}

-- a keyword and a number, where they are written
abbrev pub option_of : (keyword : List ℕ) → Option ℕ → List Lexeme
option_of keyword None = []
option_of keyword (Some n) = Word keyword ∷ NumberToken n ∷ []

-- COMPILE name [ LEVELS number ] [ THRESHOLD number ] AS select
abbrev pub IsCompile : (name : List ℕ) (levels threshold : Option ℕ) → Rule QueryTree
IsCompile name levels threshold tokens query =
    (select : List Lexeme)
    × (
    tokens
    ≡ Word (codes "COMPILE") ∷ Word name
    ∷ (option_of (codes "LEVELS") levels ++ (option_of (codes "THRESHOLD") threshold ++ mark m.As ∷ select))
    )
    × IsName name × IsSelect select query

-- a keyword and a number, where the keyword stands
unfoldable pub option_at : (keyword : List ℕ) → Reader (Option ℕ)
option_at keyword tokens =
    choose (after_word keyword tokens) (Some (None, tokens)) (λ rest. do
      n ← number_at rest
      Some (Some n.0, n.1))

-- after COMPILE
unfoldable pub compile_at : Reader StatementTree
compile_at tokens = do
  name ← name_at tokens
  levels ← option_at (codes "LEVELS") name.1
  threshold ← option_at (codes "THRESHOLD") levels.1
  rest ← after_mark m.As threshold.1
  query ← select_at rest
  Some (Compile name.0 levels.0 threshold.0 query.0, query.1)

-- LEVELS and THRESHOLD are written where they were given
abbrev pub option_parts : (keyword : List ℕ) → Option ℕ → List Part
option_parts keyword None = []
option_parts keyword (Some n) = Keyword keyword ∷ Number n ∷ []
