-- CREATE TABLE.
use Rattle.std.specs.Prelude.{codes, ◌≡◌, List, [], ◌∷◌, ◌++◌, Some, ◌⊎◌, true, false}
use Rattle.sql_parse.specs.Productions.{Lexeme, Word, mark, Rule, IsName, Separated, Reader, ◌>>=◌, choose, after_mark, name_at, number_at, list_at, in_parentheses_at, Part, Fixed, Name, Number, in_parentheses}
use Rattle.sql_values.specs.declared.column.ColumnDef.{ColumnDef}
use Rattle.sql_values.specs.declared.column.ColumnType.{ColumnType}
use Rattle.sql_values.specs.declared.column.ColumnType.TheVariants as types
use Rattle.sql_parse.specs.declared.mark.Mark.TheVariants as m
use Rattle.sql_parse.specs.declared.tree.TableDef.{TableDef}
use Rattle.sql_parse.specs.Lexemes.{Number as NumberToken}
use Rattle.sql_parse.specs.Trees.{StatementTree, CreateTable}
use Rattle.sql_parse.specs.Grammar.{written_if, InParentheses}
use Rattle.sql_parse.specs.Canonical.{kept_if}

-- INTEGER | INT | VARCHAR "(" number ")"
abbrev pub IsColumnType : Rule ColumnType
IsColumnType tokens types.Integer = (tokens ≡ mark m.Integer ∷ []) ⊎ (tokens ≡ mark m.Int ∷ [])
IsColumnType tokens (types.Varchar n) =
    tokens ≡ mark m.Varchar ∷ mark m.OpenParen ∷ NumberToken n ∷ mark m.CloseParen ∷ []

-- column = name ( INTEGER | INT | VARCHAR "(" number ")" ) [ NOT NULL ]
abbrev pub IsColumn : Rule ColumnDef
IsColumn tokens column =
    (kind : List Lexeme)
    × (tokens ≡ Word column.name ∷ (kind ++ written_if column.not_null (m.Not ∷ m.Null ∷ [])))
    × IsName column.name × IsColumnType kind column.kind

-- CREATE TABLE name "(" column { "," column } ")"
abbrev pub IsCreateTable : Rule TableDef
IsCreateTable tokens table =
    (columns : List Lexeme) × (tokens ≡ Word (codes "CREATE") ∷ mark m.Table ∷ Word table.name ∷ columns)
    × IsName table.name × InParentheses (Separated m.Comma IsColumn) columns table.columns

unfoldable pub varchar_at : Reader ColumnType
varchar_at tokens = do
  rest ← after_mark m.Varchar tokens
  n ← in_parentheses_at number_at rest
  Some (types.Varchar n.0, n.1)

unfoldable pub column_type_at : Reader ColumnType
column_type_at tokens =
    choose (after_mark m.Integer tokens)
    (choose (after_mark m.Int tokens) (varchar_at tokens) (λ rest. Some (types.Integer, rest)))
    (λ rest. Some (types.Integer, rest))

unfoldable pub column_at : Reader ColumnDef
column_at tokens = do
  name ← name_at tokens
  kind ← column_type_at name.1
  choose (after_mark m.Not kind.1) (Some (record { name = name.0; kind = kind.0; not_null = false }, kind.1)) (λ rest. do
    end ← after_mark m.Null rest
    Some (record { name = name.0; kind = kind.0; not_null = true }, end))

-- after CREATE TABLE
unfoldable pub create_table_at : Reader StatementTree
create_table_at tokens = do
  name ← name_at tokens
  columns ← in_parentheses_at (list_at column_at m.Comma) name.1
  Some (CreateTable (record { name = name.0; columns = columns.0 }), columns.1)

-- INT is written INTEGER
abbrev pub type_parts : ColumnType → List Part
type_parts types.Integer = Fixed m.Integer ∷ []
type_parts (types.Varchar n) = Fixed m.Varchar ∷ in_parentheses (Number n ∷ [])

abbrev pub definition_parts : ColumnDef → List Part
definition_parts column =
    Name column.name ∷ (type_parts column.kind ++ kept_if column.not_null (m.Not ∷ m.Null ∷ []))
