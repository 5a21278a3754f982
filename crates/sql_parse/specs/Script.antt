-- The statements of a script.
use Rattle.std.specs.Prelude.{ℕ, ◌≡◌, Bool, false, List, [], ◌∷◌, ◌++◌, codes, bytes_eq, if◌then◌else◌, Result, Ok, Err}
use Rattle.std.specs.List.{AllZip}
use Rattle.sql_lex.specs.Tokens.{Tokens}
use Rattle.sql_lex.specs.declared.token.Token.{Token}
use Rattle.sql_parse.specs.declared.fault.SyntaxFault.{SyntaxFault}
use Rattle.sql_parse.specs.declared.fault.SyntaxFault.TheVariants.{Syntax, NoMemory}
use Rattle.sql_parse.specs.Lexemes.{Lexeme, Sign, lexeme, lexemes}
use Rattle.sql_parse.specs.Trees.{StatementTree}
use Rattle.sql_parse.specs.Statements.{IsStatement}

-- whether a token is the semicolon
abbrev pub is_semicolon : Lexeme → Bool
is_semicolon (Sign bytes) = bytes_eq bytes (codes ";")
is_semicolon other = false

-- a token in front of the first of these pieces
abbrev pub in_front : Token → List (List Token) → List (List Token)
in_front token [] = (token ∷ []) ∷ []
in_front token (piece ∷ pieces) = (token ∷ piece) ∷ pieces

-- the tokens between semicolons
abbrev pub split : List ℕ → List Token → List (List Token)
split script [] = [] ∷ []
split script (token ∷ tokens) =
    if is_semicolon (lexeme script token) then [] ∷ split script tokens else in_front token (split script tokens)

-- the pieces after the first semicolon
abbrev pub split_after : List ℕ → List Token → List (List Token)
split_after script [] = []
split_after script (semicolon ∷ tokens) = split script tokens

-- those of the pieces in which there is a token
abbrev pub not_empty : List (List Token) → List (List Token)
not_empty [] = []
not_empty ([] ∷ pieces) = not_empty pieces
not_empty ((token ∷ piece) ∷ pieces) = (token ∷ piece) ∷ not_empty pieces

-- the pieces of a script
abbrev pub pieces : List ℕ → List Token → List (List Token)
pieces script tokens = not_empty (split script tokens)

-- one statement for each piece, in order
abbrev pub AreStatementsOf : List ℕ → List (List Token) → List StatementTree → Type 0
AreStatementsOf script pieces trees = AllZip (λ piece tree. IsStatement (lexemes script piece) tree) pieces trees

-- the statements of a script
abbrev pub AreStatements : List ℕ → List Token → List StatementTree → Type 0
AreStatements script tokens trees = AreStatementsOf script (pieces script tokens) trees

-- a piece begins at the place, and is no statement; each piece before it is one
abbrev pub IsFirstRefused : List ℕ → List Token → ℕ → Type 0
IsFirstRefused script tokens place =
    (before after : List (List Token)) × (trees : List StatementTree) × (first : Token) × (rest : List Token)
    × (pieces script tokens ≡ before ++ (first ∷ rest) ∷ after) × AreStatementsOf script before trees
    × ((tree : StatementTree) → IsStatement (lexemes script (first ∷ rest)) tree → ⊥) × (place ≡ first.start)

-- what the tokens of a script are read as: their statements, or the place of the first piece that is none
abbrev pub IsParsing : List ℕ → List Token → Result (List StatementTree) ℕ → Type 0
IsParsing script tokens (Ok trees) = AreStatements script tokens trees
IsParsing script tokens (Err place) = IsFirstRefused script tokens place

-- what a refusal says of the script; out of memory says nothing
abbrev pub IsCause : List ℕ → List Token → SyntaxFault → Type 0
IsCause script tokens (Syntax place) = IsFirstRefused script tokens place
IsCause script tokens NoMemory = Unit {0}

-- the text of one statement: its tokens are written for the statement
abbrev pub SpellsStatement : List ℕ → StatementTree → Type 0
SpellsStatement text tree = (tokens : List Token) × Tokens text tokens × IsStatement (lexemes text tokens) tree
