-- Sound parts are read, as they are spaced, as these tokens.
use Rattle.std.proofs.Common.{◌≡◌, ◌∙◌, ◌⊎◌, inl, inr, ℕ, ◌+◌, ◌-◌, ◌<◌, ◌≤◌, Bool, true, false, cond, nat_eq, List, [], ◌∷◌, ◌++◌, map, length, get_or, drop, codes, slice_index, None, Some, refl, sym, ap, arith, length-append, length-drop}
use Rattle.std.proofs.lemmas.Grind.{common_steps}
use Rattle.std.specs.List.{AllPass}
use Rattle.std.specs.Char.{is_ascii_digit}
use Rattle.std.proofs.lemmas.Bool.Decides.{nat_tests}
use Rattle.std.proofs.lemmas.List.Elements.{All-head, All-nil}
use Rattle.std.proofs.lemmas.List.Sums.{AllPass-from_list_all}
use Rattle.sql_lex.specs.Bytes.{is_white, is_word_byte}
use Rattle.sql_lex.specs.Forms.{HasForm, is_comparison, goes_on}
use Rattle.sql_lex.specs.Values.{comparison_text}
use Rattle.sql_lex.specs.Tokens.{Tokens}
use Rattle.sql_lex.specs.Written.{Written, written_text, written_tokens, MayBeWritten}
use Rattle.sql_lex.proofs.Lexings.{form_first}
use Rattle.sql_lex.proofs.Spelled.{written_once}
use Rattle.sql_lex.proofs.Wholes.{between_is_front, drop_past}
use Rattle.sql_lex.specs.declared.token.TokenKind.{TokenKind}
use Rattle.sql_values.specs.declared.op.Op.{Op}
use Rattle.sql_values.specs.declared.op.Op.TheVariants as ops
use Rattle.sql_parse.specs.declared.mark.Mark.TheVariants as m
use Rattle.sql_parse.specs.Lexemes.{lexeme_of, lexeme, lexemes, lexeme_kind}
use Rattle.sql_parse.specs.Parameters.{AreNumberedFrom}
use Rattle.sql_parse.specs.Canonical.{Part, Fixed, Keyword, Name, Number, Text, Operator, Parameter, part_lexeme, spelled, joins_next, with_spaces, parts_text}
use Rattle.sql_parse.proofs.PrintedForms.{tokens_of}
use Rattle.sql_parse.proofs.Sound.{IsSound, EachSound, sound-form, sound-limit, plain, sound-again, numbered-again, decimal-digits, decimal-length}
use Rattle.sql_parse.proofs.Numbers.{numbers_in}

abbrev BeginsNumber : List Part → Type 0
BeginsNumber (Number n ∷ parts) = Unit {0}
BeginsNumber other = ⊥

abbrev BeginsGroup : List Part → Type 0
BeginsGroup (Fixed m.OpenParen ∷ parts) = Unit {0}
BeginsGroup other = ⊥

-- what follows a minus sign, and VARCHAR
abbrev pub Follows : Part → List Part → Type 0
Follows (Fixed m.Minus) parts = BeginsNumber parts
Follows (Fixed m.Varchar) parts = BeginsGroup parts
Follows other parts = Unit {0}

abbrev pub Writable : List Part → Type 0
Writable [] = Unit {0}
Writable (part ∷ parts) = IsSound (part_lexeme part) × Follows part parts × Writable parts

number-append : (xs ys : List Part) → BeginsNumber xs → BeginsNumber (xs ++ ys)
number-append [] ys begins = absurd begins
number-append (Number n ∷ xs) ys begins = tt
number-append (other ∷ xs) ys begins = absurd begins

group-append : (xs ys : List Part) → BeginsGroup xs → BeginsGroup (xs ++ ys)
group-append [] ys begins = absurd begins
group-append (Fixed m.OpenParen ∷ xs) ys begins = tt
group-append (other ∷ xs) ys begins = absurd begins

follows-append : (part : Part) (xs ys : List Part) → Follows part xs → Follows part (xs ++ ys)
follows-append (Fixed m.Minus) xs ys follows = number-append xs ys follows
follows-append (Fixed m.Varchar) xs ys follows = group-append xs ys follows
follows-append other xs ys follows = tt

pub writable-append : (xs ys : List Part) → Writable xs → Writable ys → Writable (xs ++ ys)
writable-append [] ys front back = back
writable-append (x ∷ xs) ys front back = (front.0, follows-append x xs ys front.1, writable-append xs ys front.2 back)

-- what comes next, where nothing joins it: the end, a space, or a sign
abbrev IsQuiet : ℕ → Type 0
IsQuiet b = (b ≡ 0) ⊎ (b ≡ 32) ⊎ (b ≡ 41) ⊎ (b ≡ 44) ⊎ (b ≡ 46)

next-quiet : (parts : List Part) → IsQuiet (slice_index (written_text (with_spaces false parts)) 0)
next-quiet [] = inl refl
next-quiet (Fixed m.CloseParen ∷ parts) = inr (inr (inl refl))
next-quiet (Fixed m.Comma ∷ parts) = inr (inr (inr (inl refl)))
next-quiet (Fixed m.Dot ∷ parts) = inr (inr (inr (inr refl)))
next-quiet (other ∷ parts) = inr (inl refl)

quiet-stops : (test : ℕ → Bool) → test 0 ≡ false → test 32 ≡ false → test 41 ≡ false → test 44 ≡ false → test 46 ≡ false → (b : ℕ) → IsQuiet b → test b ≡ false
quiet-stops test at_end at_space at_close at_comma at_point b quiet = grind (arith, common_steps)

word-stops : (parts : List Part) → is_word_byte (slice_index (written_text (with_spaces false parts)) 0) ≡ false
word-stops parts = quiet-stops is_word_byte refl refl refl refl refl _ (next-quiet parts)

comparison-stops : (op : Op) (parts : List Part) → is_comparison (comparison_text op ++ slice_index (written_text (with_spaces false parts)) 0 ∷ []) ≡ false
comparison-stops ops.Eq parts = quiet-stops (λ b. is_comparison (comparison_text ops.Eq ++ b ∷ [])) refl refl refl refl refl _ (next-quiet parts)
comparison-stops ops.Ne parts = quiet-stops (λ b. is_comparison (comparison_text ops.Ne ++ b ∷ [])) refl refl refl refl refl _ (next-quiet parts)
comparison-stops ops.Lt parts = quiet-stops (λ b. is_comparison (comparison_text ops.Lt ++ b ∷ [])) refl refl refl refl refl _ (next-quiet parts)
comparison-stops ops.Le parts = quiet-stops (λ b. is_comparison (comparison_text ops.Le ++ b ∷ [])) refl refl refl refl refl _ (next-quiet parts)
comparison-stops ops.Gt parts = quiet-stops (λ b. is_comparison (comparison_text ops.Gt ++ b ∷ [])) refl refl refl refl refl _ (next-quiet parts)
comparison-stops ops.Ge parts = quiet-stops (λ b. is_comparison (comparison_text ops.Ge ++ b ∷ [])) refl refl refl refl refl _ (next-quiet parts)

first-append : (xs ys : List ℕ) → 0 < length xs → get_or (xs ++ ys) 0 0 ≡ get_or xs 0 0
first-append [] ys some = absurd (omega arith)
first-append (x ∷ xs) ys some = refl

first-passes : (test : ℕ → Bool) (xs : List ℕ) → 0 < length xs → AllPass test xs → test (get_or xs 0 0) ≡ true
first-passes test [] some all = absurd (omega arith)
first-passes test (x ∷ xs) some all = All-head (λ b. test b ≡ true) x xs all

digit-no_minus : (b : ℕ) → is_ascii_digit b ≡ true → nat_eq b 45 ≡ false
digit-no_minus b digit = grind (arith, nat_tests)

minus-stops : (parts : List Part) → Follows (Fixed m.Minus) parts → Writable parts → nat_eq (slice_index (written_text (with_spaces true parts)) 0) 45 ≡ false
minus-stops [] follows sound = absurd follows
minus-stops (Number n ∷ parts) follows sound =
    grind (arith, common_steps, nat_eq, first-append, decimal-length, digit-no_minus, first-passes, decimal-digits)
minus-stops (other ∷ parts) follows sound = absurd follows

varchar-stops : (parts : List Part) → Follows (Fixed m.Varchar) parts → is_word_byte (slice_index (written_text (with_spaces true parts)) 0) ≡ false
varchar-stops [] follows = absurd follows
varchar-stops (Fixed m.OpenParen ∷ parts) follows = refl
varchar-stops (other ∷ parts) follows = absurd follows

-- no token goes on with what is written after it
stops : (part : Part) (parts : List Part) → Follows part parts → Writable parts
    → goes_on (lexeme_kind (part_lexeme part)) (spelled (part_lexeme part)) (slice_index (written_text (with_spaces (joins_next part) parts)) 0) ≡ false
stops (Fixed m.Varchar) parts follows sound = varchar-stops parts follows
stops (Fixed m.OpenParen) parts follows sound = refl
stops (Fixed m.CloseParen) parts follows sound = refl
stops (Fixed m.Star) parts follows sound = refl
stops (Fixed m.Plus) parts follows sound = refl
stops (Fixed m.Comma) parts follows sound = refl
stops (Fixed m.Dot) parts follows sound = refl
stops (Fixed m.Minus) parts follows sound = minus-stops parts follows sound
stops (Fixed other) parts follows sound = word-stops parts
stops (Keyword upper) parts follows sound = word-stops parts
stops (Name upper) parts follows sound = word-stops parts
stops (Number n) parts follows sound = quiet-stops is_ascii_digit refl refl refl refl refl _ (next-quiet parts)
stops (Text text) parts follows sound = quiet-stops (λ b. nat_eq b 39) refl refl refl refl refl _ (next-quiet parts)
stops (Operator op) parts follows sound = comparison-stops op parts
stops (Parameter number) parts follows sound = refl

space-white : (joined : Bool) → AllPass is_white (cond joined [] (codes " "))
space-white true = All-nil (λ b. is_white b ≡ true)
space-white false = AllPass-from_list_all is_white (codes " ") refl

pub may_be_written : (joined : Bool) (parts : List Part) → Writable parts → MayBeWritten (with_spaces joined parts)
may_be_written joined [] sound = tt
may_be_written joined (part ∷ parts) sound = (
  space-white _,
  sound-form (part_lexeme part) sound.0,
  sound-limit (part_lexeme part) sound.0,
  stops part parts sound.1 sound.2,
  may_be_written (joins_next part) parts sound.2,
)

form_length : (kind : TokenKind) (bytes : List ℕ) → HasForm kind bytes → 0 < length bytes
form_length kind [] form = let none : None ≡ Some kind = form_first kind [] form in absurd (cc none)
form_length kind (b ∷ bs) form = omega arith

-- what written tokens stand for
lexemes-written : (s : List ℕ) (from : ℕ) (tokens : List Written) → from ≤ length s → drop from s ≡ written_text tokens → MayBeWritten tokens
    → map (lexeme s) (written_tokens from tokens) ≡ map (λ token. lexeme_of token.kind token.bytes) tokens
lexemes-written s from [] in_script same may = refl
lexemes-written s from (this ∷ tokens) in_script same (space, form, keeps, stops, others) =
    let rest = written_text tokens in
    let start = from + length this.space in
    let end = start + length this.bytes in
    let at_start : drop start s ≡ this.bytes ++ rest = drop_past s this.space (this.bytes ++ rest) from same in
    let at_end : drop end s ≡ rest = drop_past s this.bytes rest start at_start in
    let some = form_length this.kind this.bytes form in
    let len : length s - start ≡ length this.bytes + length rest =
    sym (length-drop start s) ∙ ap length at_start ∙ length-append this.bytes rest in
    let in_order : start < end = omega arith in
    let inside : end ≤ length s = omega (arith, len) in
    let here : drop start s ≡ this.bytes ++ drop end s = at_start ∙ ap (λ l. this.bytes ++ l) (sym at_end) in
    rw (between_is_front s this.bytes start end in_order inside here) (ap (λ more. lexeme_of this.kind this.bytes ∷ more) (lexemes-written s end tokens inside at_end others))

spaced-lexemes : (joined : Bool) (parts : List Part) → Writable parts → map (λ token. lexeme_of token.kind token.bytes) (with_spaces joined parts) ≡ map plain (tokens_of parts)
spaced-lexemes joined [] sound = refl
spaced-lexemes joined (part ∷ parts) sound =
    rw (sound-again (part_lexeme part) sound.0) (ap (λ more. plain (part_lexeme part) ∷ more) (spaced-lexemes (joins_next part) parts sound.2))

pub text-tokens : (parts : List Part) → Writable parts → Tokens (parts_text parts) (written_tokens 0 (with_spaces true parts))
text-tokens parts sound = written_once (with_spaces true parts) (may_be_written true parts sound)

parts-sound : (parts : List Part) → Writable parts → EachSound (tokens_of parts)
parts-sound [] sound = tt
parts-sound (part ∷ parts) sound = (sound.0, parts-sound parts sound.2)

pub text-lexemes : (parts : List Part) → Writable parts → AreNumberedFrom 0 (numbers_in (tokens_of parts))
    → lexemes (parts_text parts) (written_tokens 0 (with_spaces true parts)) ≡ tokens_of parts
text-lexemes parts sound known =
    grind (arith, common_steps, lexemes-written, may_be_written, spaced-lexemes, numbered-again, tokens_of, parts-sound)
