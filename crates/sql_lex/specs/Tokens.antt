-- The tokens of a script, or its first fault.
use Rattle.std.specs.Prelude.{ℕ, ◌≡◌, ◌<◌, ◌≤◌, List, [], ◌∷◌, length, drop, slice_index, slice_range, Option, Some, None, Result, Ok, Err}
use Rattle.std.specs.Bool.{IsFalse}
use Rattle.sql_lex.specs.Values.{doubled}
use Rattle.sql_lex.specs.Gap.{IsGap}
use Rattle.sql_lex.specs.Forms.{HasForm, KeepsTokenLimit, limit_fault, goes_on, begins_something}
use Rattle.sql_lex.specs.declared.token.Token.{Token}
use Rattle.sql_lex.specs.declared.token.TokenKind.{TokenKind}
use Rattle.sql_lex.specs.declared.fault.LexFault.{LexFault}
use Rattle.sql_lex.specs.declared.fault.LexKind.{LexKind}
use Rattle.sql_lex.specs.declared.fault.LexKind.TheVariants.{Byte, OpenText}

-- these bytes have a kind's form, and would not have it any more with the byte after them
pub record IsWhole (script : List ℕ) (kind : TokenKind) (start end : ℕ) : Type 0 where
  pub in_order : start < end
  pub in_script : end ≤ length script
  pub form : HasForm kind (slice_range script start end)
  pub longest : IsFalse (goes_on kind (slice_range script start end) (slice_index script end))

-- a token of the script: it is whole, and keeps the limit of its kind
pub record IsToken (script : List ℕ) (token : Token) : Type 0 where
  pub whole : IsWhole script token.kind token.start token.end
  pub limit : KeepsTokenLimit token.kind (slice_range script token.start token.end)

-- what stands at a place: a token, or nothing more at the script's end, or a fault; that is
-- a byte with which nothing begins, a text with no closing quote, or a form that breaks its limit
pub data StandsAt (script : List ℕ) (place : ℕ)
    : Result (Option Token) LexFault → Type 0 where
  token_here : (kind : TokenKind) (end : ℕ)
      → IsToken script (record { kind = kind; start = place; end = end })
      → StandsAt script place (Ok (Some (record { kind = kind; start = place; end = end })))
  end_here : place ≡ length script → StandsAt script place (Ok None)
  strange_byte : place < length script → IsFalse (begins_something (slice_index script place))
      → StandsAt script place (Err (record { place = place; kind = Byte }))
  open_text : (value : List ℕ) → drop place script ≡ 39 ∷ doubled value
      → StandsAt script place (Err (record { place = place; kind = OpenText }))
  past_limit : (kind : TokenKind) (end : ℕ) (fault : LexKind) → IsWhole script kind place end
      → ¬ (KeepsTokenLimit kind (slice_range script place end))
      → limit_fault kind ≡ Some fault
      → StandsAt script place (Err (record { place = place; kind = fault }))

-- what comes next: it stands after white space and comments
abbrev pub ComesNext : List ℕ → (from : ℕ) → Result (Option Token) LexFault → Type 0
ComesNext script from next = (place : ℕ) × IsGap script from place × StandsAt script place next

-- from a place on a script is read so: these tokens, and then what comes after them
abbrev pub IsReading : List ℕ → (from : ℕ) → List Token → Result (Option Token) LexFault
    → Type 0
IsReading script from [] last = ComesNext script from last
IsReading script from (token ∷ tokens) last =
    ComesNext script from (Ok (Some token)) × IsReading script token.end tokens last

-- the script is these tokens, with white space and comments around them
abbrev pub Tokens : List ℕ → List Token → Type 0
Tokens script tokens = IsReading script 0 tokens (Ok None)

-- the first fault stands here, after tokens alone
abbrev pub IsFirstFault : List ℕ → ℕ → LexKind → Type 0
IsFirstFault script place kind =
    (tokens : List Token)
    × IsReading script 0 tokens (Err (record { place = place; kind = kind }))

-- what a script is read as: its tokens, or its first fault
abbrev pub IsLexing : List ℕ → Result (List Token) LexFault → Type 0
IsLexing script (Ok tokens) = Tokens script tokens
IsLexing script (Err fault) = IsFirstFault script fault.place fault.kind
