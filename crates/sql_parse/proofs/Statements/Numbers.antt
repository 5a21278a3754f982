-- What is written by the grammar for numbers behind a word, what is read and what is printed are the same.
use Rattle.std.proofs.Common.{◌≡◌, ◌∙◌, ℕ, List, [], ◌∷◌, Some, None, true, bytes_eq, refl, ap, subst}
use Rattle.std.proofs.lemmas.Slice.Eq.{bytes_eq-Decides}
use Rattle.sql_parse.proofs.Productions.{Lexeme, Word, Separated, after_word, after_mark, number_at, list_at, either_word, Reads, number-reads, list-reads, IsReadAgain, list-again, tokens_of, IsPrintedBy, separated-printed, EachSound, IsWritable, listed-writable, Holds, no_terms, hold-none, hold-after}
use Rattle.sql_parse.specs.declared.mark.Mark.TheVariants as m
use Rattle.sql_parse.specs.Canonical.{Number, listed}
use Rattle.sql_parse.specs.Grammar.{Rule}
use Rattle.sql_parse.specs.Lexemes.{Number as NumberToken}
use Rattle.sql_parse.specs.Statements.Numbers.{IsNumbers, numbers_at, numbers_parts}
use Rattle.sql_parse.proofs.Read.{IsRead, found_weaker}
use Rattle.sql_parse.proofs.Sound.{IsSound}
use Rattle.sql_parse.proofs.Operands.{list-held}

abbrev IsNumber : Rule ℕ
IsNumber tokens n = tokens ≡ NumberToken n ∷ []

number-again : IsReadAgain IsNumber number_at (λ rest. Unit {0})
unfolding number_at
number-again tokens n rest form follows = rw form refl

number-writable : IsWritable IsNumber (λ n. Number n ∷ [])
number-writable tokens n sound form = let all = subst EachSound form sound in (all.0, tt, tt)

module _ (word : List ℕ) where
  numbers-of : (ns : List ℕ) (tokens : List Lexeme) → Separated m.Comma IsNumber tokens ns → IsNumbers word (Word word ∷ tokens) ns
  numbers-of [] tokens form = absurd form
  numbers-of (n ∷ ns) tokens form = (tokens, refl, form)

  pub numbers-reads : Reads (IsNumbers word) (numbers_at word)
  unfolding numbers_at
  numbers-reads = record {
    each = λ tokens.
        either_word word tokens _ _ _ ([], refl, refl)
        (λ rest at. found_weaker (IsRead (Separated m.Comma IsNumber) rest) _ (list_at number_at m.Comma rest)
        (λ ns form. (Word word ∷ form.0, at ∙ ap (λ all. Word word ∷ all) form.1, numbers-of ns.0 form.0 form.2))
        ((list-reads number-reads m.Comma).each rest));
  }

  word-first : (rest : List Lexeme) → after_word word (Word word ∷ rest) ≡ Some rest
  unfolding after_word
  word-first rest = let same : bytes_eq word word ≡ true = (bytes_eq-Decides word word).1 refl in rw same refl

  pub numbers-again : IsReadAgain (IsNumbers word) (numbers_at word) (λ rest. (after_word word rest ≡ None) × (after_mark m.Comma rest ≡ None))
  unfolding numbers_at after_mark
  numbers-again tokens [] rest form follows = rw (form, follows.0) refl
  numbers-again tokens (n ∷ ns) rest form follows =
      let found = list-again m.Comma IsNumber number_at (λ rest. Unit {0}) (λ rest. refl) (λ rest. tt) number-again form.0 (n ∷ ns) rest form.2 (tt, follows.1) in
      rw (form.1, word-first _, found) refl

  pub numbers-printed : IsPrintedBy (IsNumbers word) (numbers_parts word)
  numbers-printed tokens [] form = refl
  numbers-printed tokens (n ∷ ns) form = (
    tokens_of (listed (λ number. Number number ∷ []) (n ∷ ns)),
    refl,
    separated-printed IsNumber (λ number. Number number ∷ []) (λ ts number is. refl) form.0 (n ∷ ns) form.2,
  )

  pub numbers-writable : IsSound (Word word) → IsWritable (IsNumbers word) (numbers_parts word)
  numbers-writable is tokens [] sound form = tt
  numbers-writable is tokens (n ∷ ns) sound form =
      let all : EachSound (Word word ∷ form.0) = subst EachSound form.1 sound in
      (is, tt, listed-writable IsNumber (λ number. Number number ∷ []) number-writable form.0 (n ∷ ns) all.1 form.2)

  pub numbers-held : Holds (IsNumbers word) no_terms
  numbers-held tokens [] form = hold-none tokens (rw form refl)
  numbers-held tokens (n ∷ ns) form =
      rw form.1 (hold-after (Word word) form.0 [] refl (list-held m.Comma IsNumber (λ ts number is. hold-none ts (rw is refl)) form.0 (n ∷ ns) form.2))
