-- SAVE.
use Rattle.std.specs.Prelude.{codes, ◌≡◌, [], ◌∷◌, Some}
use Rattle.sql_parse.specs.Productions.{Word, mark, Rule, IsName, Reader, ◌>>=◌, after_mark, name_at, text_token_at}
use Rattle.sql_parse.specs.declared.mark.Mark.TheVariants as m
use Rattle.sql_parse.specs.declared.tree.FileDef.{FileDef}
use Rattle.sql_parse.specs.Lexemes.{Text as TextToken}
use Rattle.sql_parse.specs.Trees.{StatementTree, SaveFile}

-- SAVE name TO text
abbrev pub IsSaveFile : Rule FileDef
IsSaveFile tokens save =
    (tokens ≡ Word (codes "SAVE") ∷ Word save.name ∷ mark m.To ∷ TextToken save.file ∷ []) × IsName save.name

-- after SAVE
unfoldable pub save_file_at : Reader StatementTree
save_file_at tokens = do
  name ← name_at tokens
  rest ← after_mark m.To name.1
  file ← text_token_at rest
  Some (SaveFile (record { name = name.0; file = file.0 }), file.1)
