-- LOAD.
use Rattle.std.specs.Prelude.{codes, ◌≡◌, [], ◌∷◌, Some}
use Rattle.sql_parse.specs.Productions.{Word, mark, Rule, IsName, Reader, ◌>>=◌, after_mark, name_at, text_token_at}
use Rattle.sql_parse.specs.declared.mark.Mark.TheVariants as m
use Rattle.sql_parse.specs.declared.tree.LoadDef.{LoadDef}
use Rattle.sql_parse.specs.Lexemes.{Text as TextToken}
use Rattle.sql_parse.specs.Trees.{StatementTree, Load}

-- LOAD text INTO name
abbrev pub IsLoad : Rule LoadDef
IsLoad tokens load =
    (tokens ≡ Word (codes "LOAD") ∷ TextToken load.file ∷ mark m.Into ∷ Word load.table ∷ []) × IsName load.table

-- after LOAD
unfoldable pub load_at : Reader StatementTree
load_at tokens = do
  file ← text_token_at tokens
  rest ← after_mark m.Into file.1
  table ← name_at rest
  Some (Load (record { file = file.0; table = table.0 }), table.1)
