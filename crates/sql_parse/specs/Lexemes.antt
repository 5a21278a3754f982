-- Tokens with their values, as the grammar sees them.
use Rattle.std.specs.Prelude.{ℕ, ◌+◌, Bool, false, List, [], ◌∷◌, map, codes, slice_range, bytes_eq, if◌then◌else◌}
use Rattle.std.specs.List.{list_any}
use Rattle.sql_lex.specs.Values.{word_value_of, number_value_of, text_value_of}
use Rattle.sql_lex.specs.declared.token.Token.{Token}
use Rattle.sql_lex.specs.declared.token.TokenKind.{TokenKind}
use Rattle.sql_lex.specs.declared.token.TokenKind.TheVariants as kinds
use Rattle.sql_values.specs.declared.op.Op.{Op}
use Rattle.sql_values.specs.declared.op.Op.TheVariants.{Eq, Ne, Lt, Le, Gt, Ge}
use Rattle.sql_parse.specs.declared.mark.Mark.{Mark}
use Rattle.sql_parse.specs.declared.mark.Mark.TheVariants as marks

-- a token and what it stands for
pub data Lexeme : Type 0 where
  Word : (upper : List ℕ) → Lexeme
  Number : (value : ℕ) → Lexeme
  Text : (value : List ℕ) → Lexeme
  Sign : (bytes : List ℕ) → Lexeme
  Comparison : (op : Op) → Lexeme
  -- a `?`, by its number among those of the statement, from 0
  Parameter : (number : ℕ) → Lexeme

-- the kind of its token
abbrev pub lexeme_kind : Lexeme → TokenKind
lexeme_kind (Word upper) = kinds.Word
lexeme_kind (Number n) = kinds.Number
lexeme_kind (Text text) = kinds.Text
lexeme_kind (Comparison op) = kinds.Comparison
lexeme_kind other = kinds.Sign

-- what bytes of a kind stand for
abbrev pub lexeme_of : TokenKind → List ℕ → Lexeme
lexeme_of kinds.Word bytes = Word (word_value_of bytes)
lexeme_of kinds.Number bytes = Number (number_value_of bytes)
lexeme_of kinds.Text bytes = Text (text_value_of bytes)
lexeme_of kinds.Sign bytes = Sign bytes
lexeme_of kinds.Comparison bytes =
    Comparison (
    if bytes_eq bytes (codes "=") then Eq
    else if bytes_eq bytes (codes "<>") then Ne
    else if bytes_eq bytes (codes "<") then Lt
    else if bytes_eq bytes (codes "<=") then Le
    else if bytes_eq bytes (codes ">") then Gt
    else Ge)

-- what a token of the script stands for by itself; a `?` is a sign like others
abbrev pub lexeme : List ℕ → Token → Lexeme
lexeme script token = lexeme_of token.kind (slice_range script token.start token.end)

-- whether it is the sign `?`
abbrev pub is_question_mark : Lexeme → Bool
is_question_mark (Sign bytes) = bytes_eq bytes (codes "?")
is_question_mark other = false

-- the signs `?` as parameters, with numbers from the first on
abbrev pub numbered : (first : ℕ) → List Lexeme → List Lexeme
numbered first [] = []
numbered first (token ∷ tokens) =
    if is_question_mark token then Parameter first ∷ numbered (first + 1) tokens else token ∷ numbered first tokens

-- what the tokens of a statement stand for
abbrev pub lexemes : List ℕ → List Token → List Lexeme
lexemes script tokens = numbered 0 (map (lexeme script) tokens)

-- the signs of the grammar, and the reserved words that stand within a statement
abbrev pub mark : Mark → Lexeme
mark marks.And = Word (codes "AND")
mark marks.As = Word (codes "AS")
mark marks.Between = Word (codes "BETWEEN")
mark marks.From = Word (codes "FROM")
mark marks.In = Word (codes "IN")
mark marks.Int = Word (codes "INT")
mark marks.Integer = Word (codes "INTEGER")
mark marks.Into = Word (codes "INTO")
mark marks.Is = Word (codes "IS")
mark marks.Not = Word (codes "NOT")
mark marks.Null = Word (codes "NULL")
mark marks.On = Word (codes "ON")
mark marks.Or = Word (codes "OR")
mark marks.Select = Word (codes "SELECT")
mark marks.Table = Word (codes "TABLE")
mark marks.To = Word (codes "TO")
mark marks.Using = Word (codes "USING")
mark marks.Varchar = Word (codes "VARCHAR")
mark marks.Where = Word (codes "WHERE")
mark marks.OpenParen = Sign (codes "(")
mark marks.CloseParen = Sign (codes ")")
mark marks.Star = Sign (codes "*")
mark marks.Plus = Sign (codes "+")
mark marks.Comma = Sign (codes ",")
mark marks.Minus = Sign (codes "-")
mark marks.Dot = Sign (codes ".")

-- whether the word, in upper case, is one that can't be a name
abbrev pub is_reserved : List ℕ → Bool
is_reserved word =
    list_any (bytes_eq word) (
    codes "AND" ∷ codes "AS" ∷ codes "BETWEEN" ∷ codes "CREATE" ∷ codes "FROM" ∷ codes "IN" ∷ codes "INT"
    ∷ codes "INTEGER" ∷ codes "INTO" ∷ codes "IS" ∷ codes "NOT" ∷ codes "NULL" ∷ codes "ON" ∷ codes "OR"
    ∷ codes "SELECT" ∷ codes "TABLE" ∷ codes "TO" ∷ codes "USING" ∷ codes "VARCHAR" ∷ codes "WHERE" ∷ [])
