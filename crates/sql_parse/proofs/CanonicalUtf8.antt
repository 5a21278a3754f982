-- The text of a query is UTF-8, since each of its tokens is.
use Rattle.std.proofs.Common.{◌≡◌, ℕ, ◌<◌, Bool, true, List, [], ◌∷◌, ◌++◌, refl, sym, subst, arith}
use Rattle.std.proofs.lemmas.Grind.{common_steps}
use Rattle.std.specs.List.{AllPass}
use Rattle.std.specs.Char.{is_ascii_digit}
use Rattle.std.specs.Str.{IsUtf8}
use Rattle.std.proofs.lemmas.Bool.Decides.{nat_tests}
use Rattle.std.proofs.lemmas.List.Elements.{All-weaker}
use Rattle.std.proofs.lemmas.Str.Ascii.{IsAscii-nil, IsAscii-cons, IsAscii-from_all}
use Rattle.std.proofs.lemmas.Str.{IsUtf8-nil, IsUtf8-from_ascii, IsUtf8-append}
use Rattle.sql_lex.specs.Bytes.{is_white, is_word_byte, is_sign, starts_comparison, is_second}
use Rattle.sql_lex.specs.Forms.{HasForm, KeepsTokenLimit}
use Rattle.sql_lex.specs.Values.{doubled, quoted}
use Rattle.sql_lex.specs.Written.{Written, written_text, MayBeWritten}
use Rattle.sql_lex.proofs.Texts.{text_limit}
use Rattle.sql_lex.specs.declared.token.TokenKind.{TokenKind}
use Rattle.sql_lex.specs.declared.token.TokenKind.TheVariants as kinds
use Rattle.sql_parse.specs.Lexemes.{Lexeme}
use Rattle.sql_parse.specs.Trees.{QueryTree}
use Rattle.sql_parse.specs.Grammar.{IsSelect}
use Rattle.sql_parse.specs.Canonical.{with_spaces, query_parts, canonical_query}
use Rattle.sql_parse.proofs.Sound.{EachSound, between_quotes-quoted}
use Rattle.sql_parse.proofs.SoundForms.{select-writable}
use Rattle.sql_parse.proofs.WrittenParts.{may_be_written}

-- bytes that pass a test of ASCII bytes
passing-utf8 : (test : ℕ → Bool) → ((b : ℕ) → test b ≡ true → b < 128) → (bytes : List ℕ) → AllPass test bytes → IsUtf8 bytes
passing-utf8 test ascii bytes all =
    IsUtf8-from_ascii bytes (IsAscii-from_all bytes (All-weaker (λ b. test b ≡ true) (λ b. b < 128) ascii bytes all))

white-ascii : (b : ℕ) → is_white b ≡ true → b < 128
white-ascii b passes = grind (arith, nat_tests)

word-ascii : (b : ℕ) → is_word_byte b ≡ true → b < 128
word-ascii b passes = grind (arith, nat_tests)

digit-ascii : (b : ℕ) → is_ascii_digit b ≡ true → b < 128
digit-ascii b passes = grind (arith, nat_tests)

sign-ascii : (b : ℕ) → is_sign b ≡ true → b < 128
sign-ascii b passes = grind (arith, nat_tests)

first-ascii : (b : ℕ) → starts_comparison b ≡ true → b < 128
first-ascii b passes = grind (arith, nat_tests)

second-ascii : (b c : ℕ) → is_second b c ≡ true → (b < 128) × (c < 128)
second-ascii b c passes = (grind (arith, nat_tests), grind (arith, nat_tests))

one-utf8 : (b : ℕ) → b < 128 → IsUtf8 (b ∷ [])
one-utf8 b ascii = IsUtf8-from_ascii (b ∷ []) (IsAscii-cons b [] ascii IsAscii-nil)

quoted-utf8 : (value : List ℕ) → KeepsTokenLimit kinds.Text (quoted value) → IsUtf8 (quoted value)
quoted-utf8 value limit =
    let inside : IsUtf8 (doubled value) = subst IsUtf8 (between_quotes-quoted value) ((text_limit kinds.Text (quoted value) refl (value, refl)).0 limit) in
    let quote : IsUtf8 (39 ∷ []) = one-utf8 39 (omega arith) in
    IsUtf8-append (39 ∷ []) (doubled value ++ 39 ∷ []) quote (IsUtf8-append (doubled value) (39 ∷ []) inside quote)

comparison-utf8 : (bytes : List ℕ) → HasForm kinds.Comparison bytes → IsUtf8 bytes
comparison-utf8 [] form = absurd (cc form)
comparison-utf8 (b ∷ []) form = one-utf8 b (first-ascii b form)
comparison-utf8 (b ∷ c ∷ []) form =
    let ascii = second-ascii b c form in
    IsUtf8-append (b ∷ []) (c ∷ []) (one-utf8 b ascii.0) (one-utf8 c ascii.1)
comparison-utf8 (b ∷ c ∷ d ∷ bytes) form = absurd (cc form)

token-utf8 : (kind : TokenKind) (bytes : List ℕ) → HasForm kind bytes → KeepsTokenLimit kind bytes → IsUtf8 bytes
token-utf8 kinds.Word bytes form limit = passing-utf8 is_word_byte word-ascii bytes form.1
token-utf8 kinds.Number bytes form limit = passing-utf8 is_ascii_digit digit-ascii bytes form.1
token-utf8 kinds.Text bytes form limit =
    subst IsUtf8 (sym form.1) (quoted-utf8 form.0 (subst (KeepsTokenLimit kinds.Text) form.1 limit))
token-utf8 kinds.Sign bytes form limit = subst IsUtf8 (sym form.2) (one-utf8 form.0 (sign-ascii form.0 form.1))
token-utf8 kinds.Comparison bytes form limit = comparison-utf8 bytes form

written-utf8 : (tokens : List Written) → MayBeWritten tokens → IsUtf8 (written_text tokens)
written-utf8 [] may = IsUtf8-nil
written-utf8 (this ∷ tokens) (space, form, keeps, stops, others) =
    grind (arith, common_steps, IsUtf8-append, passing-utf8, white-ascii, token-utf8, written-utf8 tokens others)

pub query-utf8 : (tokens : List Lexeme) (query : QueryTree) → EachSound tokens → IsSelect tokens query → IsUtf8 (canonical_query query)
query-utf8 tokens query sound form =
    written-utf8 (with_spaces true (query_parts query)) (may_be_written true (query_parts query) (select-writable tokens query sound form))
