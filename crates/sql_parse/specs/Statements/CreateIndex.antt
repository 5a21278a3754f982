-- CREATE INDEX.
use Rattle.std.specs.Prelude.{codes, ◌≡◌, [], ◌∷◌, Some}
use Rattle.sql_parse.specs.Productions.{Word, mark, Rule, IsName, Reader, ◌>>=◌, after_mark, name_at, in_parentheses_at}
use Rattle.sql_parse.specs.declared.mark.Mark.TheVariants as m
use Rattle.sql_parse.specs.declared.tree.IndexDef.{IndexDef}
use Rattle.sql_parse.specs.Trees.{StatementTree, CreateIndex}

-- CREATE INDEX name ON name "(" name ")"
abbrev pub IsCreateIndex : Rule IndexDef
IsCreateIndex tokens index =
    (
    tokens
    ≡ Word (codes "CREATE") ∷ Word (codes "INDEX") ∷ Word index.name ∷ mark m.On ∷ Word index.table
    ∷ mark m.OpenParen ∷ Word index.column ∷ mark m.CloseParen ∷ []
    )
    × IsName index.name × IsName index.table × IsName index.column

-- after CREATE INDEX
unfoldable pub create_index_at : Reader StatementTree
create_index_at tokens = do
  name ← name_at tokens
  rest ← after_mark m.On name.1
  table ← name_at rest
  column ← in_parentheses_at name_at table.1
  Some (CreateIndex (record { name = name.0; table = table.0; column = column.0 }), column.1)
