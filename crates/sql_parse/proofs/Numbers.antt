-- The numbers of parameters among the tokens of a statement.
use Rattle.std.proofs.Common.{◌≡◌, ℕ, ◌+◌, true, false, cond, List, [], ◌∷◌, length, map, Option, Some, None, refl, arith}
use Rattle.std.proofs.lemmas.Grind.{common_steps}
use Rattle.std.specs.List.{filter_map}
use Rattle.sql_lex.specs.declared.token.Token.{Token}
use Rattle.sql_lex.specs.declared.token.TokenKind.{TokenKind}
use Rattle.sql_lex.specs.declared.token.TokenKind.TheVariants as kinds
use Rattle.sql_parse.specs.declared.mark.Mark.{Mark}
use Rattle.sql_parse.specs.declared.mark.Mark.TheVariants as m
use Rattle.sql_parse.specs.Lexemes.{Lexeme, Parameter, lexeme_of, lexeme, is_question_mark, numbered, lexemes, mark}
use Rattle.sql_parse.specs.Parameters.{AreNumberedFrom}

-- the number of a token that is a parameter
abbrev pub number_of : Lexeme → Option ℕ
number_of (Parameter number) = Some number
number_of other = None

abbrev pub numbers_in : List Lexeme → List ℕ
numbers_in tokens = filter_map number_of tokens

-- each token stands for one
pub numbered_length : (script : List ℕ) (first : ℕ) (tokens : List Token) → length (numbered first (map (lexeme script) tokens)) ≡ length tokens
numbered_length script first [] = refl
numbered_length script first (token ∷ tokens) =
    grind (arith, common_steps, numbered_length script (first + 1) tokens, numbered_length script first tokens)

pub mark-no_number : (keyword : Mark) → number_of (mark keyword) ≡ None
mark-no_number m.OpenParen = refl
mark-no_number other = refl

lexeme-no_number : (kind : TokenKind) (bytes : List ℕ) → number_of (lexeme_of kind bytes) ≡ None
lexeme-no_number kinds.Word bytes = refl
lexeme-no_number other bytes = refl

numbered_from : (script : List ℕ) (first : ℕ) (tokens : List Token) → AreNumberedFrom first (numbers_in (numbered first (map (lexeme script) tokens)))
numbered_from script first [] = tt
numbered_from script first (token ∷ tokens) =
    let this = lexeme script token in
    let later = map (lexeme script) tokens in
    let none : number_of this ≡ None = lexeme-no_number token.kind _ in
    elim (is_question_mark this) as (λ b. AreNumberedFrom first (numbers_in (cond b (Parameter first ∷ numbered (first + 1) later) (this ∷ numbered first later)))) [
      | true ↦ (refl, numbered_from script (first + 1) tokens)
      | false ↦ rw none (numbered_from script first tokens)
    ]

-- the parameters of a statement's tokens have the numbers from 0 on
pub lexemes-numbered : (script : List ℕ) (tokens : List Token) → AreNumberedFrom 0 (numbers_in (lexemes script tokens))
lexemes-numbered script tokens = numbered_from script 0 tokens
