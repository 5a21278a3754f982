-- What a token of each kind looks like.
use Rattle.std.specs.Prelude.{ℕ, ◌≡◌, ◌<◌, ◌≤◌, Bool, false, ◌==◌, ◌&&◌, ◌||◌, List, [], ◌∷◌, ◌++◌, length, slice_index, IsTrue, Option, Some, None}
use Rattle.std.specs.List.{AllPass}
use Rattle.std.specs.Str.{IsUtf8}
use Rattle.std.specs.Char.{is_ascii_digit}
use Rattle.sql_lex.specs.Bytes.{is_white, starts_word, is_word_byte, is_sign, starts_comparison, is_second}
use Rattle.sql_lex.specs.Limits.{max_word_bytes, max_number}
use Rattle.sql_lex.specs.Values.{number_value_of, text_value_of, quoted}
use Rattle.sql_lex.specs.declared.token.TokenKind.{TokenKind}
use Rattle.sql_lex.specs.declared.token.TokenKind.TheVariants.{Word, Number, Text, Sign, Comparison}
use Rattle.sql_lex.specs.declared.fault.LexKind.{LexKind}
use Rattle.sql_lex.specs.declared.fault.LexKind.TheVariants as faults

-- one of = < > <> <= >=
abbrev pub is_comparison : List ℕ → Bool
is_comparison (b ∷ []) = starts_comparison b
is_comparison (b ∷ c ∷ []) = is_second b c
is_comparison bytes = false

-- the form of each kind, its limit apart
abbrev pub HasForm : TokenKind → List ℕ → Type 0
HasForm Word bytes = IsTrue (starts_word (slice_index bytes 0)) × AllPass is_word_byte bytes
HasForm Number bytes = (0 < length bytes) × AllPass is_ascii_digit bytes
HasForm Text bytes = (value : List ℕ) × (bytes ≡ quoted value)
HasForm Sign bytes = (b : ℕ) × IsTrue (is_sign b) × (bytes ≡ b ∷ [])
HasForm Comparison bytes = IsTrue (is_comparison bytes)

-- the limit of each kind
abbrev pub KeepsTokenLimit : TokenKind → List ℕ → Type 0
KeepsTokenLimit Word bytes = length bytes ≤ max_word_bytes
KeepsTokenLimit Number bytes = number_value_of bytes ≤ max_number
KeepsTokenLimit Text bytes = IsUtf8 (text_value_of bytes)
KeepsTokenLimit other bytes = Unit {0}

-- the fault of bytes that break the limit of their kind
abbrev pub limit_fault : TokenKind → Option LexKind
limit_fault Word = Some faults.Name
limit_fault Number = Some faults.Number
limit_fault Text = Some faults.Utf8
limit_fault other = None

-- whether a token goes on with the byte after it, where 0 stands for the script's end
abbrev pub goes_on : TokenKind → List ℕ → ℕ → Bool
goes_on Word bytes next = is_word_byte next
goes_on Number bytes next = is_ascii_digit next
goes_on Text bytes next = next == 39
goes_on Sign bytes next = (slice_index bytes 0 == 45) && (next == 45)
goes_on Comparison bytes next = is_comparison (bytes ++ next ∷ [])

-- whether white space, a comment or a token begins with the byte
abbrev pub begins_something : ℕ → Bool
begins_something b =
    is_white b || starts_word b || is_ascii_digit b || (b == 39) || is_sign b || starts_comparison b
