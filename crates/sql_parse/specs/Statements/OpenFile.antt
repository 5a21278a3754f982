-- OPEN.
use Rattle.std.specs.Prelude.{codes, ℕ, ◌≡◌, List, ◌∷◌, Some}
use Rattle.sql_parse.specs.Productions.{Lexeme, Word, mark, Rule, IsName, IsSelect, Reader, ◌>>=◌, after_mark, name_at, text_token_at, select_at}
use Rattle.sql_parse.specs.declared.mark.Mark.TheVariants as m
use Rattle.sql_parse.specs.Lexemes.{Text as TextToken}
use Rattle.sql_parse.specs.Trees.{QueryTree, StatementTree, OpenFile}

-- OPEN name FROM text AS select
abbrev pub IsOpenFile : (name file : List ℕ) → Rule QueryTree
IsOpenFile name file tokens query =
    (select : List Lexeme)
    × (tokens ≡ Word (codes "OPEN") ∷ Word name ∷ mark m.From ∷ TextToken file ∷ mark m.As ∷ select)
    × IsName name × IsSelect select query

-- after OPEN
unfoldable pub open_file_at : Reader StatementTree
open_file_at tokens = do
  name ← name_at tokens
  rest ← after_mark m.From name.1
  file ← text_token_at rest
  later ← after_mark m.As file.1
  query ← select_at later
  Some (OpenFile name.0 file.0 query.0, query.1)
