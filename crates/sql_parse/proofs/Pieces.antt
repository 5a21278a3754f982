-- Where the pieces of a script end, and what holds of the statement of each.
use Rattle.std.proofs.Common.{◌≡◌, ℕ, ◌+◌, ◌≤◌, true, false, cond, List, [], ◌∷◌, ◌++◌, length, map, take, drop, refl, arith}
use Rattle.std.proofs.lemmas.Grind.{common_steps}
use Rattle.std.specs.List.{All, AllByRecursion}
use Rattle.std.proofs.lemmas.List.Elements.{All-head, All-tail, All-cons, All-nil, All-from_recursion}
use Rattle.sql_lex.specs.Tokens.{IsToken}
use Rattle.sql_lex.specs.declared.token.Token.{Token}
use Rattle.sql_parse.specs.declared.statement.Statement.{Statement}
use Rattle.sql_parse.specs.Lexemes.{lexeme, lexemes}
use Rattle.sql_parse.specs.Trees.{StatementTree, statement_tree}
use Rattle.sql_parse.specs.Script.{is_semicolon, in_front, split, not_empty, pieces, AreStatementsOf, AreStatements}
use Rattle.sql_parse.specs.Statements.{IsStatement}

-- tokens in front of the first of these pieces
abbrev prepend : List Token → List (List Token) → List (List Token)
prepend front [] = front ∷ []
prepend front (piece ∷ pieces) = (front ++ piece) ∷ pieces

-- up to here there is no semicolon
abbrev pub IsInPiece : List ℕ → List Token → ℕ → Type 0
IsInPiece script tokens end = prepend (take end tokens) (split script (drop end tokens)) ≡ split script tokens

prepend-nothing : (token : Token) (pieces : List (List Token)) → prepend [] (in_front token pieces) ≡ in_front token pieces
prepend-nothing token [] = refl
prepend-nothing token (piece ∷ pieces) = refl

prepend-split : (script : List ℕ) (tokens : List Token) → prepend [] (split script tokens) ≡ split script tokens
prepend-split script [] = refl
prepend-split script (token ∷ tokens) = grind (arith, common_steps, prepend-nothing)

pub in_piece-first : (script : List ℕ) (tokens : List Token) → IsInPiece script tokens 0
in_piece-first script tokens = prepend-split script tokens

-- tokens of the script, at most so many
abbrev pub IsPieceOf : List ℕ → (most : ℕ) → List Token → Type 0
IsPieceOf script most piece = (length piece ≤ most) × All (IsToken script) piece

abbrev ArePiecesOf : List ℕ → (most : ℕ) → List (List Token) → Type 0
ArePiecesOf script most all = AllByRecursion (IsPieceOf script most) all

more-room : (script : List ℕ) (most : ℕ) (all : List (List Token)) → ArePiecesOf script most all → ArePiecesOf script (most + 1) all
more-room script most [] each = tt
more-room script most (piece ∷ all) each = ((omega (arith, each.0.0), each.0.1), more-room script most all each.1)

no-tokens : (script : List ℕ) (most : ℕ) → IsPieceOf script most []
no-tokens script most = (omega arith, All-nil (IsToken script))

in_front-pieces : (script : List ℕ) (most : ℕ) (token : Token) (all : List (List Token)) → IsToken script token → ArePiecesOf script most all
    → ArePiecesOf script (most + 1) (in_front token all)
in_front-pieces script most token [] one each = ((omega arith, All-cons (IsToken script) token [] one (All-nil (IsToken script))), tt)
in_front-pieces script most token (piece ∷ all) one each =
    ((omega (arith, each.0.0), All-cons (IsToken script) token piece one each.0.1), more-room script most all each.1)

split-pieces : (script : List ℕ) (tokens : List Token) → All (IsToken script) tokens → ArePiecesOf script (length tokens) (split script tokens)
split-pieces script [] each = (no-tokens script 0, tt)
split-pieces script (token ∷ tokens) each =
    let later = split script tokens in
    let rest = split-pieces script tokens (All-tail (IsToken script) token tokens each) in
    let grown : length (token ∷ tokens) ≡ length tokens + 1 = omega arith in
    rw grown (elim (is_semicolon (lexeme script token)) as (λ b. ArePiecesOf script (length tokens + 1) (cond b ([] ∷ later) (in_front token later))) [
      | true ↦ (no-tokens script (length tokens + 1), more-room script (length tokens) later rest)
      | false ↦ in_front-pieces script (length tokens) token later (All-head (IsToken script) token tokens each) rest
    ])

not_empty-pieces : (script : List ℕ) (most : ℕ) (all : List (List Token)) → ArePiecesOf script most all → ArePiecesOf script most (not_empty all)
not_empty-pieces script most [] each = tt
not_empty-pieces script most ([] ∷ all) each = not_empty-pieces script most all each.1
not_empty-pieces script most ((token ∷ piece) ∷ all) each = (each.0, not_empty-pieces script most all each.1)

each_of : (P : StatementTree → Type 0) (script : List ℕ) (most : ℕ)
    → ((piece : List Token) (statement : StatementTree) → IsPieceOf script most piece → IsStatement (lexemes script piece) statement → P statement)
    → (all : List (List Token)) (statements : List Statement) → ArePiecesOf script most all → AreStatementsOf script all (map statement_tree statements)
    → AllByRecursion (λ statement. P (statement_tree statement)) statements
each_of P script most one all [] each form = tt
each_of P script most one [] (statement ∷ statements) each form = absurd form
each_of P script most one (piece ∷ all) (statement ∷ statements) each form =
    (one piece (statement_tree statement) each.0 form.0, each_of P script most one all statements each.1 form.1)

-- what holds of the statement of each piece holds of each statement
pub each-statement : (P : StatementTree → Type 0) (script : List ℕ) (tokens : List Token) (statements : List Statement)
    → ((piece : List Token) (statement : StatementTree) → IsPieceOf script (length tokens) piece → IsStatement (lexemes script piece) statement → P statement)
    → All (IsToken script) tokens → AreStatements script tokens (map statement_tree statements) → All (λ statement. P (statement_tree statement)) statements
each-statement P script tokens statements one each form =
    All-from_recursion _ statements (each_of P script (length tokens) one (pieces script tokens) statements
    (not_empty-pieces script (length tokens) (split script tokens) (split-pieces script tokens each)) form)
