-- Canonical text is read as its statement.
use Rattle.std.proofs.Common.{◌≡◌, ◌∙◌, ℕ, true, List, sym, ap, subst}
use Rattle.std.specs.Prelude.{Result, Ok}
use Rattle.sql_lex.specs.Written.{written_tokens}
use Rattle.sql_lex.proofs.Lexings.{lexing_once}
use Rattle.sql_lex.specs.declared.fault.LexFault.{LexFault}
use Rattle.sql_lex.specs.declared.token.Token.{Token}
use Rattle.sql_parse.specs.Lexemes.{lexemes}
use Rattle.sql_parse.specs.Trees.{StatementTree}
use Rattle.sql_parse.specs.Canonical.{with_spaces}
use Rattle.sql_parse.specs.Parameters.{AreNumberedFrom}
use Rattle.sql_parse.specs.Script.{SpellsStatement}
use Rattle.sql_parse.proofs.Numbers.{lexemes-numbered}
use Rattle.sql_parse.proofs.PrintedForms.{tokens_of}
use Rattle.sql_parse.proofs.Scripts.{tokens-each}
use Rattle.sql_parse.proofs.Sound.{tokens-sound}
use Rattle.sql_parse.proofs.WrittenParts.{Writable, text-tokens, text-lexemes}
use Rattle.sql_parse.specs.Statements.{IsStatement, statement_parts, canonical}
use Rattle.sql_parse.proofs.Statements.{statements-same, statement-writable, statement-printed, statement-held}

pub canonical-read : (text : List ℕ) (tree : StatementTree) → SpellsStatement text tree → SpellsStatement (canonical tree) tree
canonical-read text tree written =
    let tokens = lexemes text written.0 in
    let parts = statement_parts tree in
    let sound = tokens-sound text written.0 (tokens-each text written.0 written.1) in
    let writable : Writable parts = statement-writable tokens tree sound written.2 in
    let printed : IsStatement (tokens_of parts) tree = statement-printed tokens tree written.2 in
    let numbers = (statement-held tokens tree written.2).numbers ∙ sym (statement-held (tokens_of parts) tree printed).numbers in
    let numbered = subst (AreNumberedFrom 0) numbers (lexemes-numbered text written.0) in (
      written_tokens 0 (with_spaces true parts),
      text-tokens parts writable,
      subst (λ tokens. IsStatement tokens tree) (sym (text-lexemes parts writable numbered)) printed,
    )

tokens_in : Result (List Token) LexFault → List Token → List Token
tokens_in (Ok tokens) other = tokens
tokens_in fault other = other

-- a text is the text of one statement at the most
pub text-once : (text : List ℕ) (one other : StatementTree) → SpellsStatement text one → SpellsStatement text other → one ≡ other
unfolding tokens_in
text-once text one other first second =
    let same : first.0 ≡ second.0 = ap (λ lexing. tokens_in lexing first.0) (lexing_once text (Ok first.0) (Ok second.0) first.1 second.1) in
    statements-same (lexemes text second.0) one other (subst (λ (tokens : List Token). IsStatement (lexemes text tokens) one) same first.2) second.2
