-- Tokens as they are written one after another.
use Rattle.std.specs.Prelude.{ℕ, ◌+◌, List, [], ◌∷◌, ◌++◌, length, slice_index}
use Rattle.std.specs.Bool.{IsFalse}
use Rattle.std.specs.List.{AllPass}
use Rattle.sql_lex.specs.Bytes.{is_white}
use Rattle.sql_lex.specs.Forms.{HasForm, KeepsTokenLimit, goes_on}
use Rattle.sql_lex.specs.declared.token.Token.{Token}
use Rattle.sql_lex.specs.declared.token.TokenKind.{TokenKind}

-- a token to be written: the white space before it, if any, its kind and its bytes
pub record Written : Type 0 where
  pub space : List ℕ
  pub kind : TokenKind
  pub bytes : List ℕ

-- the text of written tokens
abbrev pub written_text : List Written → List ℕ
written_text [] = []
written_text (token ∷ tokens) = token.space ++ (token.bytes ++ written_text tokens)

-- where the tokens lie that are written from a place on
abbrev pub written_tokens : (from : ℕ) → List Written → List Token
written_tokens from [] = []
written_tokens from (token ∷ tokens) =
    let start = from + length token.space in
    let end = start + length token.bytes in
    record { kind = token.kind; start = start; end = end } ∷ written_tokens end tokens

-- each token may be written so: it has its kind's form, keeps its limit, and doesn't go on with
-- the byte that is written after it
abbrev pub MayBeWritten : List Written → Type 0
MayBeWritten [] = Unit {0}
MayBeWritten (token ∷ tokens) =
    AllPass is_white token.space
    × HasForm token.kind token.bytes
    × KeepsTokenLimit token.kind token.bytes
    × IsFalse (goes_on token.kind token.bytes (slice_index (written_text tokens) 0))
    × MayBeWritten tokens
