-- The tokens of a script can be spelled as canonical text spells them, and each part that is printed of them, too.
use Rattle.std.proofs.Common.{◌≡◌, ◌∙◌, ℕ, ◌+◌, ◌-◌, ◌*◌, ◌<◌, ◌≤◌, ◌^◌, true, false, nat_le, List, [], ◌∷◌, cond, codes, fold, map, length, bytes_eq, decimal, slice_index, refl, sym, ap, subst, arith}
use Rattle.std.specs.List.{All, AllPass, list_all}
use Rattle.std.specs.Str.{IsUtf8, all_ascii_digits}
use Rattle.std.specs.Char.{to_ascii_uppercase, is_ascii_digit}
use Rattle.std.proofs.lemmas.Bool.Decides.{nat_tests}
use Rattle.std.proofs.lemmas.Grind.{common_steps}
use Rattle.std.proofs.lemmas.Slice.Eq.{bytes_eq-Decides}
use Rattle.std.proofs.lemmas.List.{length-map}
use Rattle.std.proofs.lemmas.List.Elements.{All-head, All-tail, All-cons, All-nil}
use Rattle.std.proofs.lemmas.List.Sums.{AllPass-from_list_all}
use Rattle.std.proofs.lemmas.Str.Ascii.{uppercase-uppercase}
use Rattle.std.proofs.lemmas.Str.Parse.{IsNumeralModel, FoldsDigits, numerals_by_fold, tells_all_ascii_digits}
use Rattle.std.proofs.lemmas.Fmt.{digits_value-decimal, decimal_is_IsNumeral, decimal_nonempty}
use Rattle.sql_lex.specs.Bytes.{starts_word, is_word_byte}
use Rattle.sql_lex.specs.Limits.{max_word_bytes, max_number}
use Rattle.sql_lex.specs.Values.{word_value_of, number_value_of, doubled, quoted, halved, between_quotes, text_value_of}
use Rattle.sql_lex.specs.Forms.{HasForm, KeepsTokenLimit}
use Rattle.sql_lex.specs.Tokens.{IsToken}
use Rattle.sql_lex.specs.declared.token.Token.{Token}
use Rattle.sql_lex.specs.declared.token.TokenKind.{TokenKind}
use Rattle.sql_lex.specs.declared.token.TokenKind.TheVariants as kinds
use Rattle.sql_values.specs.declared.op.Op.TheVariants as ops
use Rattle.sql_parse.specs.declared.mark.Mark.{Mark}
use Rattle.sql_parse.specs.declared.mark.Mark.TheVariants as m
use Rattle.sql_parse.specs.Lexemes.{Lexeme, Word, Number, Text, Sign, Comparison, Parameter, lexeme_of, lexeme, is_question_mark, numbered, lexemes, mark, lexeme_kind}
use Rattle.sql_parse.specs.Canonical.{spelled}
use Rattle.sql_parse.specs.Parameters.{AreNumberedFrom}
use Rattle.sql_parse.proofs.Numbers.{numbers_in}

-- the token can be spelled, and is read again from that
abbrev pub IsSound : Lexeme → Type 0
IsSound (Word word) = HasForm kinds.Word word × (length word ≤ max_word_bytes) × (word_value_of word ≡ word)
IsSound (Number n) = n ≤ max_number
IsSound (Text text) = IsUtf8 text
IsSound (Sign bytes) = HasForm kinds.Sign bytes × (is_question_mark (Sign bytes) ≡ false)
IsSound (Comparison op) = Unit {0}
IsSound (Parameter number) = Unit {0}

abbrev pub EachSound : List Lexeme → Type 0
EachSound [] = Unit {0}
EachSound (token ∷ tokens) = IsSound token × EachSound tokens

-- words

upper_twice : (word : List ℕ) → word_value_of (word_value_of word) ≡ word_value_of word
upper_twice [] = refl
upper_twice (b ∷ bs) = rw (uppercase-uppercase b) (ap (λ more. to_ascii_uppercase b ∷ more) (upper_twice bs))

upper-word_byte : (b : ℕ) → is_word_byte b ≡ true → is_word_byte (to_ascii_uppercase b) ≡ true
upper-word_byte b passes = grind (arith, nat_tests)

upper-starts : (word : List ℕ) → starts_word (slice_index word 0) ≡ true → starts_word (slice_index (word_value_of word) 0) ≡ true
upper-starts [] starts = starts
upper-starts (b ∷ bs) starts = grind (arith, nat_tests)

upper-passes : (word : List ℕ) → AllPass is_word_byte word → AllPass is_word_byte (word_value_of word)
upper-passes [] all = All-nil (λ x. is_word_byte x ≡ true)
upper-passes (b ∷ bs) all =
    All-cons (λ x. is_word_byte x ≡ true) (to_ascii_uppercase b) (word_value_of bs)
    (upper-word_byte b (All-head (λ x. is_word_byte x ≡ true) b bs all)) (upper-passes bs (All-tail (λ x. is_word_byte x ≡ true) b bs all))

-- numbers

folds : FoldsDigits (λ n digits. fold (λ value digit. 10 * value + (digit - 48)) n digits)
folds = grind (arith, common_steps)

model : IsNumeralModel (λ digits. all_ascii_digits digits ≡ true) (λ digits. fold (λ value digit. 10 * value + (digit - 48)) 0 digits)
model = numerals_by_fold (λ digits. all_ascii_digits digits ≡ true) tells_all_ascii_digits (λ n digits. fold (λ value digit. 10 * value + (digit - 48)) n digits) folds

small : (n : ℕ) → n ≤ max_number → n < 2 ^ 64
small n limit = omega arith

pub decimal-value : (n : ℕ) → n ≤ max_number → number_value_of (decimal n) ≡ n
decimal-value n limit = digits_value-decimal model n (small n limit)

digits-list_all : (digits : List ℕ) → all_ascii_digits digits ≡ true → list_all is_ascii_digit digits ≡ true
digits-list_all [] all = refl
digits-list_all (d ∷ ds) all = grind (arith, nat_tests, digits-list_all ds)

pub decimal-digits : (n : ℕ) → n ≤ max_number → AllPass is_ascii_digit (decimal n)
decimal-digits n limit =
    AllPass-from_list_all is_ascii_digit (decimal n) (digits-list_all (decimal n) (model.from (decimal n) (decimal_is_IsNumeral n (small n limit)).0.1))

pub decimal-length : (n : ℕ) → n ≤ max_number → 0 < length (decimal n)
decimal-length n limit = decimal_nonempty n (small n limit)

-- texts

halved-doubled : (v : List ℕ) → halved false (doubled v) ≡ v
halved-doubled [] = refl
halved-doubled (b ∷ v) = grind (arith, nat_tests, halved-doubled v)

pub between_quotes-quoted : (v : List ℕ) → between_quotes (quoted v) ≡ doubled v
between_quotes-quoted v = grind (arith, common_steps)

quoted-text : (v : List ℕ) → text_value_of (quoted v) ≡ v
quoted-text v = ap (halved false) (between_quotes-quoted v) ∙ halved-doubled v

-- what a token that is no `?` stands for is sound
lexeme-sound : (kind : TokenKind) (bytes : List ℕ) → HasForm kind bytes → KeepsTokenLimit kind bytes → is_question_mark (lexeme_of kind bytes) ≡ false
    → IsSound (lexeme_of kind bytes)
lexeme-sound kinds.Word bytes form limit other =
    grind (arith, common_steps, upper-starts, upper-passes, length-map, upper_twice)
lexeme-sound kinds.Number bytes form limit other = limit
lexeme-sound kinds.Text bytes form limit other = limit
lexeme-sound kinds.Sign bytes form limit other = (form, other)
lexeme-sound kinds.Comparison bytes form limit other = tt

numbered-sound : (script : List ℕ) (first : ℕ) (tokens : List Token) → All (IsToken script) tokens → EachSound (numbered first (map (lexeme script) tokens))
numbered-sound script first [] all = tt
numbered-sound script first (token ∷ tokens) all =
    let this = lexeme script token in
    let later = map (lexeme script) tokens in
    let one = All-head (IsToken script) token tokens all in
    let others = All-tail (IsToken script) token tokens all in
    elim (is_question_mark this) as (λ b. is_question_mark this ≡ b → EachSound (cond b (Parameter first ∷ numbered (first + 1) later) (this ∷ numbered first later))) [
      | true ↦ λ is. (tt, numbered-sound script (first + 1) tokens others)
      | false ↦ λ other. (lexeme-sound token.kind _ one.whole.form one.limit other, numbered-sound script first tokens others)
    ] refl

pub tokens-sound : (script : List ℕ) (tokens : List Token) → All (IsToken script) tokens → EachSound (lexemes script tokens)
tokens-sound script tokens all = numbered-sound script 0 tokens all

-- a sound token as it is spelled

pub sound-form : (token : Lexeme) → IsSound token → HasForm (lexeme_kind token) (spelled token)
sound-form (Word word) sound = sound.0
sound-form (Number n) sound = (decimal-length n sound, decimal-digits n sound)
sound-form (Text text) sound = (text, refl)
sound-form (Sign bytes) sound = sound.0
sound-form (Parameter number) sound = (63, refl, refl)
sound-form (Comparison ops.Eq) sound = refl
sound-form (Comparison ops.Ne) sound = refl
sound-form (Comparison ops.Lt) sound = refl
sound-form (Comparison ops.Le) sound = refl
sound-form (Comparison ops.Gt) sound = refl
sound-form (Comparison ops.Ge) sound = refl

pub sound-limit : (token : Lexeme) → IsSound token → KeepsTokenLimit (lexeme_kind token) (spelled token)
sound-limit (Word word) sound = sound.1
sound-limit (Number n) sound = subst (λ k. k ≤ max_number) (sym (decimal-value n sound)) sound
sound-limit (Text text) sound = subst IsUtf8 (sym (quoted-text text)) sound
sound-limit (Sign bytes) sound = tt
sound-limit (Comparison op) sound = tt
sound-limit (Parameter number) sound = tt

-- a token without its number
abbrev pub plain : Lexeme → Lexeme
plain (Parameter number) = Sign (codes "?")
plain other = other

pub sound-again : (token : Lexeme) → IsSound token → lexeme_of (lexeme_kind token) (spelled token) ≡ plain token
sound-again (Parameter number) sound = refl
sound-again (Word word) sound = ap Word sound.2
sound-again (Number n) sound = ap Number (decimal-value n sound)
sound-again (Text text) sound = ap Text (quoted-text text)
sound-again (Sign bytes) sound = refl
sound-again (Comparison ops.Eq) sound = refl
sound-again (Comparison ops.Ne) sound = refl
sound-again (Comparison ops.Lt) sound = refl
sound-again (Comparison ops.Le) sound = refl
sound-again (Comparison ops.Gt) sound = refl
sound-again (Comparison ops.Ge) sound = refl

-- tokens whose parameters have the numbers from the first on get these again
pub numbered-again : (first : ℕ) (tokens : List Lexeme) → EachSound tokens → AreNumberedFrom first (numbers_in tokens) → numbered first (map plain tokens) ≡ tokens
numbered-again first [] sound known = refl
numbered-again first (Parameter number ∷ tokens) sound known =
    rw known.0 (ap (λ more. Parameter first ∷ more) (numbered-again (first + 1) tokens sound.1 known.1))
numbered-again first (Sign bytes ∷ tokens) sound known =
    rw sound.0.1 (ap (λ more. Sign bytes ∷ more) (numbered-again first tokens sound.1 known))
numbered-again first (other ∷ tokens) sound known = ap (λ more. other ∷ more) (numbered-again first tokens sound.1 known)

-- keywords and signs are sound

pub word-sound : (word : List ℕ) → starts_word (slice_index word 0) ≡ true → list_all is_word_byte word ≡ true → nat_le (length word) 128 ≡ true
    → bytes_eq (word_value_of word) word ≡ true → IsSound (Word word)
word-sound word starts all limit upper = grind (arith, common_steps, AllPass-from_list_all, nat_tests, bytes_eq-Decides)

pub mark-sound : (keyword : Mark) → IsSound (mark keyword)
mark-sound m.OpenParen = ((40, refl, refl), refl)
mark-sound m.CloseParen = ((41, refl, refl), refl)
mark-sound m.Star = ((42, refl, refl), refl)
mark-sound m.Plus = ((43, refl, refl), refl)
mark-sound m.Comma = ((44, refl, refl), refl)
mark-sound m.Minus = ((45, refl, refl), refl)
mark-sound m.Dot = ((46, refl, refl), refl)
mark-sound other = word-sound _ refl refl refl refl
