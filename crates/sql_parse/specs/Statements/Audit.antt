-- AUDIT.
use Rattle.std.specs.Prelude.{codes, ◌≡◌, List, ◌∷◌, ◌++◌, Some}
use Rattle.sql_parse.specs.Productions.{Lexeme, Word, Rule, IsName, Reader, ◌>>=◌, name_at}
use Rattle.sql_parse.specs.declared.tree.AuditDef.{AuditDef}
use Rattle.sql_parse.specs.Trees.{StatementTree, Audit}
use Rattle.sql_parse.specs.Statements.Numbers.{IsNumbers, numbers_at}
use Rattle.sql_parse.specs.Statements.Using.{IsUsing, using_at}

-- AUDIT name [ AT number { "," number } ] [ USING "(" literal { "," literal } ")" ]
abbrev pub IsAudit : Rule AuditDef
IsAudit tokens audit =
    (point values : List Lexeme) × (tokens ≡ Word (codes "AUDIT") ∷ Word audit.name ∷ (point ++ values))
    × IsName audit.name × IsNumbers (codes "AT") point audit.levels × IsUsing values audit.values

-- after AUDIT
unfoldable pub audit_at : Reader StatementTree
audit_at tokens = do
  name ← name_at tokens
  levels ← numbers_at (codes "AT") name.1
  values ← using_at levels.1
  Some (Audit (record { name = name.0; levels = levels.0; values = values.0 }), values.1)
