-- What the layers above rely on in the statements of a script.
use Rattle.std.proofs.Common.{ℕ, ◌<◌, ◌^◌, List, length, map, subst, arith}
use Rattle.std.proofs.lemmas.Grind.{common_steps}
use Rattle.std.specs.List.{All}
use Rattle.sql_lex.specs.Tokens.{IsToken}
use Rattle.sql_lex.specs.declared.token.Token.{Token}
use Rattle.sql_parse.specs.declared.statement.Statement.{Statement}
use Rattle.sql_parse.specs.Lexemes.{lexemes}
use Rattle.sql_parse.specs.Trees.{StatementTree, statement_tree}
use Rattle.sql_parse.specs.Script.{AreStatements}
use Rattle.sql_parse.specs.Parameters.{AreNumberedFrom}
use Rattle.sql_parse.specs.Counts.{HasUpTo, HaveUpTo}
use Rattle.sql_parse.specs.WellFormed.{IsWellFormed, AreWellFormed}
use Rattle.sql_parse.specs.Statements.{IsStatement}
use Rattle.sql_parse.proofs.Numbers.{numbered_length, lexemes-numbered}
use Rattle.sql_parse.proofs.Pieces.{IsPieceOf, each-statement}
use Rattle.sql_parse.proofs.Sound.{tokens-sound}
use Rattle.sql_parse.proofs.Counted.{statement-few, statement-parameters}
use Rattle.sql_parse.proofs.Statements.{statement-well_formed}

piece-counted : (script : List ℕ) (most : ℕ) (piece : List Token) (statement : StatementTree) → IsPieceOf script most piece → IsStatement (lexemes script piece) statement
    → HasUpTo most statement
piece-counted script most piece statement of form = grind (arith, common_steps, statement-few, numbered_length)

pub each-counted : (script : List ℕ) (tokens : List Token) (statements : List Statement) → All (IsToken script) tokens
    → AreStatements script tokens (map statement_tree statements) → HaveUpTo (length tokens) statements
each-counted script tokens statements each form =
    each-statement (HasUpTo (length tokens)) script tokens statements (piece-counted script (length tokens)) each form

piece-well_formed : (script : List ℕ) (most : ℕ) → most < 2 ^ 32 → (piece : List Token) (statement : StatementTree) → IsPieceOf script most piece
    → IsStatement (lexemes script piece) statement → IsWellFormed statement
piece-well_formed script most few piece statement of form =
    let numbered = subst (AreNumberedFrom 0) (statement-parameters (lexemes script piece) statement form) (lexemes-numbered script piece) in
    let counted = piece-counted script most piece statement of form in
    statement-well_formed (lexemes script piece) statement (tokens-sound script piece of.1) (numbered, omega (arith, few, counted.parameters)) form

pub each-well_formed : (script : List ℕ) (tokens : List Token) (statements : List Statement) → length tokens < 2 ^ 32 → All (IsToken script) tokens
    → AreStatements script tokens (map statement_tree statements) → AreWellFormed statements
each-well_formed script tokens statements few each form =
    each-statement IsWellFormed script tokens statements (piece-well_formed script (length tokens) few) each form
